use Rattle.std.proofs.Common.{ℕ, List, arith, subst, ◌∙◌}
use Rattle.ui_frame.specs.Container.{Parts, IsContainer}
use Rattle.ui_frame.proofs.Containers.{kept_in-container, Passes-container}
use Rattle.ui_frame.proofs.frame.Frame.fingerprint.Goals as goal

pub kept_fingerprint-requires : goal.kept_fingerprint-requires
kept_fingerprint-requires c =
    let long = (Passes-container _ _ c.self.invariant).headed.long in
    omega arith

pub returns : goal.returns
returns c =
    let bytes : List ℕ = c.self.inside.bytes.now in
    let is : IsContainer bytes c.args.self.now = subst (λ (p : Parts). IsContainer bytes p) c.self.view_is c.self.invariant in
    c.kept_fingerprint.ensures ∙ kept_in-container bytes c.args.self.now is
