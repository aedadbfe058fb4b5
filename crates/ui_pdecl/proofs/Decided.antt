-- What the result of a file's tokens says by the grammar alone.
use Rattle.std.proofs.Common.{◌≡◌, ◌⊎◌, inl, inr, ℕ, ◌-◌, List, [], ◌∷◌, ◌++◌, length, drop, Option, Some, None, Ok, Err, refl, sym, ap, subst, ◌∙◌, append_assoc, arith}
use Rattle.std.proofs.lemmas.List.{append-nil, length-map}
use Rattle.ui_base.specs.declared.value.Spot.{Spot}
use Rattle.ui_base.specs.declared.value.Value.TheVariants as value
use Rattle.ui_scan.specs.Tokens.{Tokens}
use Rattle.ui_scan.specs.declared.kind.Token.{Token}
use Rattle.ui_scan.specs.declared.kind.TokenKind.TheVariants.{End}
use Rattle.ui_tree.specs.declared.part.LiteralKind.TheVariants.{Text}
use Rattle.ui_tree.specs.Stmt.{File}
use Rattle.ui_grammar.specs.Word.{Word, lit, mark, word_of, words}
use Rattle.ui_grammar.specs.Parse.{HasFile, IsFault}
use Rattle.ui_parse.specs.Reader.{Outcome}
use Rattle.ui_parse.proofs.Longest.{fault}
use Rattle.ui_stmts.specs.Decls.{whole_file}
use Rattle.ui_stmts.proofs.Decides.{file_decides, one_file}
use Rattle.ui_pexpr.specs.declared.fault.ParseFault.{ParseFault}
use Rattle.ui_pexpr.specs.declared.fault.ParseFault.TheVariants.{BadImportPath}
use Rattle.ui_pexpr.specs.Faults.{StandsAt, IsKind}
use Rattle.ui_pexpr.specs.KindLaws.{ReadsFault}
use Rattle.ui_pdecl.specs.Forms.{form_at}
use Rattle.ui_pdecl.specs.FileResult.{bad_import, string_at, with_paths, fault_behind, result_of, file_result}
use Rattle.ui_pdecl.specs.FileLaws.{IsNoFile, HasBadPath, Decided}
use Rattle.ui_pdecl.proofs.LastToken.{ends_last, behind_end}
use Rattle.ui_pdecl.proofs.FaultKinds.{reads_file, ends_in, tells, stands_there, kind_is, is_told}
use Rattle.ui_pdecl.proofs.StringSpots.{string_is}
use Rattle.ui_pdecl.proofs.BadPaths.{in_file, token_of, string_kind, string_spot}

module _ (own bytes : List ℕ) (ts : List Token) (scanned : Tokens bytes ts) where
  abbrev ws : List Word
  ws = words bytes ts

  -- ---- what is read is all of the words

  has_whole : (f : File) (rest : List Word) → whole_file 199 ws ≡ Ok (f, rest) → HasFile 200 ws f
  has_whole f rest e =
      let w = (file_decides 199).found_has ws f rest e in
      let n = ends_in 200 f w.front w.has in
      let parts : ws ≡ n.others ++ (mark End n.spot ∷ rest) = w.parts ∙ ap (λ (v : List Word). v ++ rest) n.parts ∙ append_assoc n.others (mark End n.spot ∷ []) rest in
      let none : rest ≡ [] = behind_end bytes ts (ends_last bytes ts scanned) n.others rest n.spot parts in
      let same : ws ≡ w.front = w.parts ∙ ap (λ (v : List Word). w.front ++ v) none ∙ append-nil w.front in
      subst (λ (v : List Word). HasFile 200 v f) (sym same) w.has

  -- ---- trees

  record IsGood (g f : File) : Type 0 where
    same : g ≡ f
    good : bad_import own g.imports ≡ None

  good_by : (g f : File) (b : Option Spot) → bad_import own g.imports ≡ b → with_paths ts g b ≡ Ok f → IsGood g f
  good_by g f None e is = let same : g ≡ f = cc in record { same = same; good = e }
  good_by g f (Some s) e is = absurd cc

  found_by : (o : Outcome File) → whole_file 199 ws ≡ o → (f : File) → result_of own bytes ts o ≡ Ok f → HasFile 200 ws f × (bad_import own f.imports ≡ None)
  found_by (Ok p) e f is =
      let h = good_by p.0 f (bad_import own p.0.imports) refl is in
      subst (λ (f : File). HasFile 200 ws f × (bad_import own f.imports ≡ None)) h.same (has_whole p.0 p.1 e, h.good)
  found_by (Err rest) e f is = absurd cc

  found : (f : File) → file_result own bytes ts ≡ Ok f → HasFile 200 ws f × (bad_import own f.imports ≡ None)
  unfolding file_result
  found f is = found_by (whole_file 199 ws) refl f is

  every : (f : File) → HasFile 200 ws f → bad_import own f.imports ≡ None → file_result own bytes ts ≡ Ok f
  unfolding file_result
  every f has good =
      let c = (file_decides 199).complete ws f has in
      ap (result_of own bytes ts) c.read ∙ ap (λ (g : File). with_paths ts g (bad_import own g.imports)) c.is ∙ ap (with_paths ts f) good

  -- ---- faults

  bad_by : (g : File) (b : Option Spot) (e : ParseFault) → HasFile 200 ws g → bad_import own g.imports ≡ b → with_paths ts g b ≡ Err e → HasBadPath own bytes ts e
  bad_by g None e has at is = absurd cc
  bad_by g (Some s) e has at is =
      let told : e ≡ BadImportPath (string_at s ts) = cc in
      let h = in_file own s g ws has at in
      let t = token_of bytes ts (lit Text s (value.Str h.path)) h.before h.behind h.parts in
      let spot = string_spot bytes t.token s (value.Str h.path) t.is in
      let start = string_is bytes ts t.before t.behind t.token s scanned t.parts (string_kind bytes t.token s (value.Str h.path) t.is) (ap (λ (s : Spot). s.line) spot) (ap (λ (s : Spot). s.col) spot) in
      record {
        tree = g;
        has = has;
        spot = s;
        first = at;
        before = t.before;
        token = t.token;
        behind = t.behind;
        parts = t.parts;
        path = h.path;
        string = t.is;
        bad = h.bad;
        told = told ∙ ap BadImportPath start;
      }

  faulty_by : (o : Outcome File) → whole_file 199 ws ≡ o → (e : ParseFault) → result_of own bytes ts o ≡ Err e → IsNoFile bytes ts e ⊎ HasBadPath own bytes ts e
  faulty_by (Ok p) read e is = inr (bad_by p.0 (bad_import own p.0.imports) e (has_whole p.0 p.1 read) refl is)
  faulty_by (Err rest) read e is =
      let k : ℕ = length ts - length rest in
      let same : e ≡ fault_behind bytes ts k = cc in
      let long : length ws - length rest ≡ k = omega (arith, length-map ts (word_of bytes)) in
      let t = tells bytes ts scanned k rest read long in
      inl (record {
        count = k;
        fault = subst (λ (n : ℕ). IsFault (HasFile 200) ws n) long (fault (HasFile 200) (whole_file 199) (λ f. f) (file_decides 199) ws rest read);
        stands = subst (StandsAt bytes (drop k ts)) (sym same) (stands_there bytes ts k t);
        kind = subst (IsKind HasFile form_at ws k) (sym same) (kind_is bytes ts k t);
      })

  faulty : (e : ParseFault) → file_result own bytes ts ≡ Err e → IsNoFile bytes ts e ⊎ HasBadPath own bytes ts e
  unfolding file_result
  faulty e is = faulty_by (whole_file 199 ws) refl e is

  -- ---- no other fault than the one that is told

  refused_by : (e : ParseFault) (h : IsNoFile bytes ts e) (r : ReadsFault (whole_file 199) ws h.count) → file_result own bytes ts ≡ Err e
  unfolding file_result
  refused_by e h r =
      let t = tells bytes ts scanned h.count r.rest r.read r.place in
      let long : length ts - length r.rest ≡ h.count = omega (arith, length-map ts (word_of bytes), r.place) in
      ap (result_of own bytes ts) r.read ∙ ap (λ (k : ℕ). Err (fault_behind bytes ts k)) long ∙ ap (λ (e : ParseFault). Err e) (sym (is_told bytes ts h.count t e h.stands h.kind))

  bad_path : (e : ParseFault) → HasBadPath own bytes ts e → file_result own bytes ts ≡ Err e
  unfolding file_result
  bad_path e h =
      let c = (file_decides 199).complete ws h.tree h.has in
      let spot = string_spot bytes h.token h.spot (value.Str h.path) h.string in
      let start = string_is bytes ts h.before h.behind h.token h.spot scanned h.parts (string_kind bytes h.token h.spot (value.Str h.path) h.string) (ap (λ (s : Spot). s.line) spot) (ap (λ (s : Spot). s.col) spot) in
      ap (result_of own bytes ts) c.read
      ∙ ap (λ (g : File). with_paths ts g (bad_import own g.imports)) c.is
      ∙ ap (with_paths ts h.tree) h.first
      ∙ ap (λ (n : ℕ). Err (BadImportPath n)) start
      ∙ ap (λ (e : ParseFault). Err e) (sym h.told)

  refused : (e : ParseFault) → IsNoFile bytes ts e ⊎ HasBadPath own bytes ts e → file_result own bytes ts ≡ Err e
  refused e (inl h) = refused_by e h (reads_file 199 ws h.count h.fault)
  refused e (inr h) = bad_path e h

  pub decided : Decided own bytes ts
  decided = record { found = found; every = every; one = λ f g h k. one_file 199 ws f g h k; faulty = faulty; refused = refused }
