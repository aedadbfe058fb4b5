use Rattle.std.specs.Prelude.{◌≡◌, ◌<◌, length}
use Rattle.std.proofs.Common.{◌∙◌, sym, arith, refl}
use Rattle.ui_order.specs.declared.cycle.Place.TheVariants.{Unseen, OnPath, Done}
use Rattle.ui_order.specs.Components.{place_in}
use Rattle.ui_order.proofs.NumberLemmas.{get_or-any}
use Rattle.ui_order.proofs.StepLemmas.{followed_new, followed_path, followed_done}
use Rattle.ui_order.proofs.cycle.follow.Goals as goal

pub returns-in_ok-enter-in-Unseen : goal.returns-in_ok-enter-in-Unseen
returns-in_ok-enter-in-Unseen c = λ links calls at s last step.
    let places = c.args.walk.now.places.items in
    let fits : c.args.link < length places = let l = c.requires.link in omega arith in
    let is : place_in places c.args.link ≡ Unseen = get_or-any places c.args.link Unseen c.index.result.now fits ∙ sym c.index.ensures ∙ c.in-Unseen.is in
    followed_new links c.args.walk.now calls at c.args.link s last step c.enter.new.walk fits is c.in_ok-enter-in-Unseen.ensures

pub returns-in-OnPath : goal.returns-in-OnPath
returns-in-OnPath c = λ links calls at s last step.
    let places = c.args.walk.now.places.items in
    let fits : c.args.link < length places = let l = c.requires.link in omega arith in
    let is : place_in places c.args.link ≡ OnPath c.in-OnPath.position = get_or-any places c.args.link Unseen c.index.result.now fits ∙ sym c.index.ensures ∙ c.in-OnPath.is in
    followed_path links c.args.walk.now calls at c.args.link s last step (record c.args.walk.now { bounds = c.merge.new.bounds }) c.in-OnPath.position is refl refl refl refl c.merge.ensures.rising c.merge.ensures.kept

pub returns-in-Done : goal.returns-in-Done
returns-in-Done c = λ links calls at s last step.
    let places = c.args.walk.now.places.items in
    let fits : c.args.link < length places = let l = c.requires.link in omega arith in
    let is : place_in places c.args.link ≡ Done c.in-Done.field-0 = get_or-any places c.args.link Unseen c.index.result.now fits ∙ sym c.index.ensures ∙ c.in-Done.is in
    followed_done links c.args.walk.now calls at c.args.link s last step c.in-Done.field-0 is
