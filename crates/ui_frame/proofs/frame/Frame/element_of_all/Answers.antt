use Rattle.std.proofs.Common.{◌+◌, ◌-◌, ◌*◌, ◌<◌, ℕ, List, length, get_or, [], arith, subst, sym}
use Rattle.ui_frame.specs.Container.{Parts, elements, IsContainer}
use Rattle.ui_frame.specs.Opening.{total_in}
use Rattle.ui_frame.proofs.Containers.{Passes-container, Tables-container}
use Rattle.ui_frame.proofs.Located.{element_located, IsRange, IsLocated}
use Rattle.ui_frame.proofs.frame.Frame.element_of_all.Goals as goal
use Rattle.ui_frame.proofs.frame.Frame.element_of_all.Goals.{After-range_at-start}

pub read_word-requires : goal.read_word-requires
read_word-requires c =
    let long = (Passes-container _ _ c.self.invariant).headed.long in
    omega arith

pub range_at-start-requires : goal.range_at-start-requires
range_at-start-requires c =
    let bytes : List ℕ = c.self.inside.bytes.now in
    let is : IsContainer bytes c.args.self.now = subst (λ (p : Parts). IsContainer bytes p) c.self.view_is c.self.invariant in
    let long = (Tables-container bytes c.args.self.now is).length_is in
    let below = c.requires in
    omega arith

located : (c : After-range_at-start) → IsLocated (get_or (elements c.args.self.now) c.args.i []) c.self.inside.bytes.now (48 + 4 * c.read_word.result + c.range_at-start.result.0) (48 + 4 * c.read_word.result + c.range_at-start.result.1) (length c.self.inside.bytes.now - 8)
located c =
    let bytes : List ℕ = c.self.inside.bytes.now in
    let is : IsContainer bytes c.args.self.now = subst (λ (p : Parts). IsContainer bytes p) c.self.view_is c.self.invariant in
    let total = (Tables-container bytes c.args.self.now is).total_is in
    let below = c.requires in
    let within : c.args.i < total_in bytes = omega arith in
    let range : IsRange bytes (total_in bytes) 48 c.args.i c.range_at-start.result.0 c.range_at-start.result.1 = record { start_is = c.range_at-start.ensures.start _ within; end_is = c.range_at-start.ensures.end _ within } in
    rw c.read_word.ensures (element_located bytes c.args.self.now c.args.i _ _ is below range)

pub slice_bounds-result-count : goal.slice_bounds-result-count
slice_bounds-result-count c =
    let found = located c in
    let count = found.count in
    omega arith

pub slice_bounds-result-start : goal.slice_bounds-result-start
slice_bounds-result-start c =
    let found = located c in
    let count = found.count in
    omega arith

pub slice_bounds-result-end : goal.slice_bounds-result-end
slice_bounds-result-end c =
    let found = located c in
    let within = found.within in
    omega arith

pub returns : goal.returns
returns c = sym (located (goal.at.returns c).After-range_at-start).place
