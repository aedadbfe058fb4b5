use Rattle.std.proofs.Common.{◌≡◌, ℕ, List, ◌∷◌, ◌++◌, length, Some, sym, subst, ap}
use Rattle.ui_types.specs.declared.decl.Decl.{Decl}
use Rattle.ui_types.specs.Decls.{IsDecl, find_decl, shown_decl, shown_decls}
use Rattle.ui_types.specs.Stays.{decls_stay}
use Rattle.ui_known.proofs.KnownLemmas.{find_decl-left}
use Rattle.ui_known.proofs.known.KnownEnv.decl.Goals as goal

pub returns-in_ok-decl-in-Some-clause-answer : goal.returns-in_ok-decl-in-Some-clause-answer
returns-in_ok-decl-in-Some-clause-answer g c =
    let t = c.args.table.now in
    let ds = c.args.self.now.decls in
    let copied = c.in_ok-decl-in-Some.ensures in
    record {
      valid = subst (λ (x : Decl). IsDecl t x) (sym copied) (c.in-Some.ensures.valid t
          c.requires.0);
      value = sym (find_decl-left (shown_decls t ds) (g.E.Env.decls c.args.self.now.below.now t)
          c.args.name.now (shown_decl t c.in_ok-decl-in-Some.decl) (subst (λ (x : Decl). find_decl
          (shown_decls t ds) c.args.name.now ≡ Some (shown_decl t x)) (sym copied) (sym
          (c.in-Some.ensures.value t))));
    }

pub returns-in-None-clause-kept : goal.returns-in-None-clause-kept
returns-in-None-clause-kept g c =
    let k = c.decl.ensures.kept in
    let stay = decls_stay c.args.table.now c.decl.new.table c.args.self.now.decls k.grows
    c.requires.0 in
    record {
      still_fits = (stay.0, k.still_fits);
      same_packages = k.same_packages;
      same_lent = ap (λ (ns : List ℕ). c.args.self.now.below.ghost_name ∷ length
          c.args.self.now.decls ∷ ns) k.same_lent;
      same = λ i. stay.1 i ++ k.same i;
      grows = k.grows;
    }
