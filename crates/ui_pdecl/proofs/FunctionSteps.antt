-- A method behind its receiver.
use Rattle.std.proofs.Common.{◌≡◌, ℕ, List, Option, Some, None, Result, Ok, sym, subst, ◌∙◌}
use Rattle.ui_base.specs.declared.value.Spot.{Spot}
use Rattle.ui_scan.specs.declared.kind.TokenKind.TheVariants.{LParen}
use Rattle.ui_grammar.specs.Word.{Word}
use Rattle.ui_tree.specs.declared.decl.DeclTree.{DeclTree}
use Rattle.ui_tree.specs.declared.decl.Receiver.{Receiver}
use Rattle.ui_tree.specs.StmtView.{decl_view, receiver_view}
use Rattle.ui_parse.specs.declared.fault.ParseError.{ParseError}
use Rattle.ui_parse.specs.Cursor.{after}
use Rattle.ui_parse.specs.Reader.{Reader, ◌>>=◌, first, tail, taken, take_by, marked}
use Rattle.ui_parse.specs.View.{Reads}
use Rattle.ui_parse.proofs.ListLaws.{reads_then}
use Rattle.ui_stmts.specs.Decls.{receiver, method_behind, function}
use Rattle.ui_psimple.specs.declared.deep.Deep.{Deep}
use Rattle.ui_psimple.specs.Seen.{see_deep}

took : {A B X : Type 0} (see : X → A) (o : Option B) (b : B) (on : B → Reader A) (other : Reader A) (ws us : List Word) (r : Result X ParseError) (left : List Word)
    → o ≡ Some b → us ≡ after o ws → Reads see (on b us) r left → Reads see (taken o on other ws) r left
took see None b on other ws us r left is behind h = absurd cc
took see (Some a) b on other ws us r left is behind h =
    let same : b ≡ a = cc in
    subst (λ (b : _). Reads see (on b (tail ws)) r left) same (subst (λ (v : List Word). Reads see (on b v) r left) behind h)

pub method_read : (room : ℕ) (s o : Spot) (found : Option Spot) (ws us m left : List Word) (x : Receiver) (r : Result (Deep DeclTree) ParseError)
    → found ≡ first (marked LParen) ws → found ≡ Some o → us ≡ after found ws
    → Reads receiver_view (receiver 0 o us) (Ok x) m → Reads (see_deep decl_view) (method_behind room s (receiver_view x) m) r left → Reads (see_deep decl_view) (function room s ws) r left
unfolding function take_by receiver
method_read room s o found ws us m left x r at is behind h g =
    took (see_deep decl_view) (first (marked LParen) ws) o (λ o. receiver room o >>= method_behind room s) _ ws us r left (sym at ∙ is) (subst (λ (f : Option Spot). us ≡ after f ws) at behind)
    (reads_then receiver_view (see_deep decl_view) (receiver room o us) (method_behind room s) x m r left h g)
