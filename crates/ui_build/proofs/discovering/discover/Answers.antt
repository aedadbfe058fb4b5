use Rattle.std.proofs.Common.{◌≡◌, ◌∙◌, ◌-◌, ◌+◌, ap, sym, subst, refl, suc, arith, option_map, string_bytes, Some}
use Rattle.std.proofs.lemmas.Result.{err_from_is_err_and}
use Rattle.ui_order.specs.Found.{Found, IsFound, begun, least_unread}
use Rattle.ui_build.specs.Build.{discover, package_limit}
use Rattle.ui_build.specs.Heard.{FindsAll}
use Rattle.ui_build.specs.Refused.{LacksPackages}
use Rattle.ui_build.specs.Stops.{state}
use Rattle.ui_build.specs.declared.stop.Refusal.TheVariants as told
use Rattle.ui_build.specs.declared.stop.Stop.TheVariants as stop
use Rattle.ui_build.proofs.HearingFound.{turned_none, turned_more, turned_stop, turned_memory, turned_all, over}
use Rattle.ui_build.proofs.Hearing.{heard_none}
use Rattle.ui_build.proofs.Steps.{told_none}
use Rattle.ui_build.proofs.Finding.{finds_first, finds_next, finds_stop, finds_none, finds_all, finds_over, finds_turns, left_at, left_next}
use Rattle.ui_build.proofs.discovering.discover.Goals as goal

pub returns-in_err-discovery-clause-does : goal.returns-in_err-discovery-clause-does
returns-in_err-discovery-clause-does g c =
    let p = err_from_is_err_and c.from_residual.result c.from_residual.ensures.1 in
    rw (p.1, p.2) (told_none (λ (d : Found). d) (λ told. discover (suc package_limit) told (begun c.args.root.now)) _ _)

pub loop-turn-init : goal.loop-turn-init
loop-turn-init g c =
    let P : Found → Type 0 = IsFound c.args.root.now in
    record {
      rest = finds_first c.args.root.now (state (g.S.Store.told c.args.store.now).files (g.S.Store.told c.args.store.now).asked) c.in_ok-discovery.discovery c.in_ok-discovery.ensures;
      same = refl;
      count = omega arith;
      heard = turned_none c.args.root.now c.in_ok-discovery.discovery (g.S.Store.told c.args.store.now).heard c.in_ok-discovery.ensures;
      found = subst P (sym c.in_ok-discovery.ensures) (c.discovery_keeps.ensures.begins c.args.root.now);
    }

pub loop-turn-preserved : goal.loop-turn-preserved
loop-turn-preserved g c =
    let i = c.loop-turn._turn in
    let initial = state (g.S.Store.told c.args.store.now).files (g.S.Store.told c.args.store.now).asked in
    let now = state (g.S.Store.told c.loop-turn.store).files (g.S.Store.told c.loop-turn.store).asked in
    let mid = state (g.S.Store.told c.discover_one.new.store).files (g.S.Store.told c.discover_one.new.store).asked in
    let unread : least_unread c.loop-turn.discovery ≡ Some (string_bytes c.in-Some.path) = sym (sym (ap (option_map string_bytes) c.in-Some.is) ∙ c.in_ok-next_path.ensures) in
    record {
      rest = finds_turns c.args.root.now initial (1024 - i) (1025 - (i + 1)) c.in_ok-more-in-Some.more mid (left_next i)
          (finds_next (λ (d : Found). d) c.args.root.now initial (1024 - i) c.loop-turn.discovery (string_bytes c.in-Some.path) (g.S.Store.told c.loop-turn.store).files (g.S.Store.told c.discover_one.new.store).files (g.S.Store.told c.loop-turn.store).asked (g.S.Store.told c.discover_one.new.store).asked c.in_ok-more-in-Some.more
          unread c.in_ok-more-in-Some.ensures.files (finds_turns c.args.root.now initial (1025 - i) (suc (1024 - i)) c.loop-turn.discovery now (left_at i (omega (arith, c.loop-turn-test.true))) c.loop-turn.invariant.rest) c.in_ok-more-in-Some.ensures.does);
      same = c.in_ok-more-in-Some.ensures.files ∙ c.loop-turn.invariant.same;
      count = omega (arith, c.in_ok-more-in-Some.ensures.cause.later);
      heard = turned_more c.args.root.now i c.loop-turn.discovery c.in_ok-more-in-Some.more (string_bytes c.in-Some.path) _ _ _ unread c.loop-turn.invariant.heard c.in_ok-more-in-Some.ensures.heard;
      found = c.in_ok-more-in-Some.ensures.found c.args.root.now c.loop-turn.invariant.found;
    }

pub returns-in_err-next_path-clause-does : goal.returns-in_err-next_path-clause-does
returns-in_err-next_path-clause-does g c =
    let p = err_from_is_err_and c.from_residual-in_err-next_path.result c.from_residual-in_err-next_path.ensures.1 in
    rw (p.1, p.2) (finds_none c.args.root.now (state (g.S.Store.told c.args.store.now).files (g.S.Store.told c.args.store.now).asked) (1025 - c.loop-turn._turn) c.loop-turn.discovery _ _ c.loop-turn.invariant.rest)

pub returns-in-None-clause-does : goal.returns-in-None-clause-does
returns-in-None-clause-does g c =
    let i = c.loop-turn._turn in
    let initial = state (g.S.Store.told c.args.store.now).files (g.S.Store.told c.args.store.now).asked in
    let now = state (g.S.Store.told c.loop-turn.store).files (g.S.Store.told c.loop-turn.store).asked in
    finds_all c.args.root.now initial (1024 - i) c.loop-turn.discovery _ _ (sym (sym (ap (option_map string_bytes) c.in-None.is) ∙ c.in_ok-next_path.ensures))
    (finds_turns c.args.root.now initial (1025 - i) (suc (1024 - i)) c.loop-turn.discovery now (left_at i (omega (arith, c.loop-turn-test.true))) c.loop-turn.invariant.rest)

pub returns-in_err-more-in-Some-clause-does : goal.returns-in_err-more-in-Some-clause-does
returns-in_err-more-in-Some-clause-does g c =
    let p = err_from_is_err_and c.from_residual-in_err-more-in-Some.result c.from_residual-in_err-more-in-Some.ensures.1 in
    let i = c.loop-turn._turn in
    let initial = state (g.S.Store.told c.args.store.now).files (g.S.Store.told c.args.store.now).asked in
    let now = state (g.S.Store.told c.loop-turn.store).files (g.S.Store.told c.loop-turn.store).asked in
    rw (p.1, p.2)
    (finds_stop (λ (d : Found). d) c.args.root.now initial (1024 - i) c.loop-turn.discovery (string_bytes c.in-Some.path) (g.S.Store.told c.loop-turn.store).files (g.S.Store.told c.loop-turn.store).asked (state (g.S.Store.told c.discover_one.new.store).files (g.S.Store.told c.discover_one.new.store).asked) c.in_err-more-in-Some.field-0.0
    (sym (sym (ap (option_map string_bytes) c.in-Some.is) ∙ c.in_ok-next_path.ensures)) (finds_turns c.args.root.now initial (1025 - i) (suc (1024 - i)) c.loop-turn.discovery now (left_at i (omega (arith, c.loop-turn-test.true))) c.loop-turn.invariant.rest) c.in_err-more-in-Some.ensures.does)

pub returns-clause-does : goal.returns-clause-does
returns-clause-does g c =
    finds_over c.args.root.now (state (g.S.Store.told c.args.store.now).files (g.S.Store.told c.args.store.now).asked) (1025 - c.loop-turn._turn) c.loop-turn.discovery _ _ (omega (arith, c.loop-turn-test.false)) c.loop-turn.invariant.rest

pub returns-in_err-discovery-clause-heard : goal.returns-in_err-discovery-clause-heard
returns-in_err-discovery-clause-heard g c =
    let p = err_from_is_err_and c.from_residual.result c.from_residual.ensures.1 in
    rw (p.1, p.2) (heard_none (FindsAll c.args.root.now) (LacksPackages c.args.root.now) stop.NoMemory _ _ refl tt)

pub returns-in_err-next_path-clause-heard : goal.returns-in_err-next_path-clause-heard
returns-in_err-next_path-clause-heard g c =
    let p = err_from_is_err_and c.from_residual-in_err-next_path.result c.from_residual-in_err-next_path.ensures.1 in
    rw (p.1, p.2) (turned_memory (FindsAll c.args.root.now) c.args.root.now c.loop-turn._turn c.loop-turn.discovery _ _ c.loop-turn.invariant.heard)

pub returns-in-None-clause-heard : goal.returns-in-None-clause-heard
returns-in-None-clause-heard g c = turned_all c.args.root.now c.loop-turn._turn c.loop-turn.discovery _ _ (sym (sym (ap (option_map string_bytes) c.in-None.is) ∙ c.in_ok-next_path.ensures)) c.loop-turn.invariant.heard

pub returns-in_err-more-in-Some-clause-heard : goal.returns-in_err-more-in-Some-clause-heard
returns-in_err-more-in-Some-clause-heard g c =
    let p = err_from_is_err_and c.from_residual-in_err-more-in-Some.result c.from_residual-in_err-more-in-Some.ensures.1 in
    rw (p.1, p.2)
    (turned_stop _ (FindsAll c.args.root.now) c.args.root.now c.loop-turn._turn c.loop-turn.discovery (string_bytes c.in-Some.path) c.in_err-more-in-Some.field-0.0 _ _ _
    (sym (sym (ap (option_map string_bytes) c.in-Some.is) ∙ c.in_ok-next_path.ensures)) c.loop-turn.invariant.heard c.in_err-more-in-Some.ensures.heard)

pub returns-clause-heard : goal.returns-clause-heard
returns-clause-heard g c =
    over (FindsAll c.args.root.now) c.discovery_keeps.ensures.begins c.discovery_keeps.ensures.keeps c.discovery_keeps.ensures.reads c.args.root.now c.loop-turn._turn c.loop-turn.discovery (stop.Refused told.TooMany) _ _ (omega (arith, c.loop-turn-test.false)) c.loop-turn.invariant.heard
