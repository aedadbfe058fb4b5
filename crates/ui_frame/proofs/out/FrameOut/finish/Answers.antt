use Rattle.std.proofs.Common.{◌≡◌, ◌++◌, ℕ, List, ap, append_assoc, ◌∙◌, sym}
use Rattle.ui_frame.specs.Container.{Parts, before_fingerprint, container, contents, elements, ends_of, fingerprint_after, flags, version, word, words}
use Rattle.ui_frame.proofs.Containers.{before-is}
use Rattle.ui_frame.proofs.out.FrameOut.finish.Goals as goal

written : (parts : Parts) → ((((word version ++ word flags) ++ words (ends_of parts)) ++ words (ends_of (elements parts))) ++ contents parts) ≡ before_fingerprint parts
written parts =
    ap (λ (ws : List ℕ). (ws ++ words (ends_of (elements parts))) ++ contents parts) (append_assoc (word version) (word flags) (words (ends_of parts))) ∙ sym (before-is parts)

pub returns : goal.returns
returns c =
    let parts : Parts = c.self.inside.sections in
    let same : parts ≡ c.args.self = c.self.view_is in
    let out : List ℕ = c.put_contents.new.out.items in
    let a : c.put_word.new.out.items ≡ word version = c.in_ok-put_word.ensures ∙ ap (λ (bs : List ℕ). bs ++ word version) c.in_ok-out.ensures.items in
    let b = c.in_ok-put_word-2.ensures ∙ ap (λ (bs : List ℕ). bs ++ word flags) a in
    let d = c.in_ok-put_counts.ensures ∙ ap (λ (bs : List ℕ). bs ++ words (ends_of parts)) b in
    let e = c.in_ok-put_all_ends.ensures ∙ ap (λ (bs : List ℕ). bs ++ words (ends_of (elements parts))) d in
    let f : out ≡ before_fingerprint parts = c.in_ok-put_contents.ensures ∙ ap (λ (bs : List ℕ). bs ++ contents parts) e ∙ written parts in
    let fp = c.fingerprint_of-fingerprint.ensures ∙ ap fingerprint_after c.deref.ensures.value in
    let whole : c.extend_from_slice.new.self.items ≡ container parts = c.in_ok-extend_from_slice.ensures.items ∙ ap (λ (bs : List ℕ). out ++ bs) fp ∙ ap (λ (bs : List ℕ). bs ++ fingerprint_after bs) f in
    rw (← same) (record { fits = c.self.invariant.0; spelled = whole })
