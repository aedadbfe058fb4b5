-- Words behind which a type or an expression has ended.
use Rattle.std.proofs.Common.{◌≡◌, ℕ, false, List, [], ◌∷◌, None, refl, sym, subst, inl, inr}
use Rattle.ui_base.specs.declared.value.Spot.{Spot}
use Rattle.ui_scan.specs.declared.kind.TokenKind.{TokenKind}
use Rattle.ui_scan.specs.declared.kind.TokenKind.TheVariants.{RParen, RBracket, RBrace, LParen, LBrace, Comma, Semi, Colon, Ellipsis, Or}
use Rattle.ui_tree.specs.Tree.{TypeTree}
use Rattle.ui_grammar.specs.Word.{Word, mark, Mark, Closes}
use Rattle.ui_grammar.specs.Both.{ends_open}
use Rattle.ui_parse.specs.Reader.{first, marked}
use Rattle.ui_syntax.specs.declared.site.Site.{Site}
use Rattle.ui_syntax.specs.declared.site.Site.TheVariants.{Header}
use Rattle.ui_syntax.proofs.ByBudget.{NoType, QuietType, QuietAlone, Quiet}

-- marks that go on with no type and no expression
pub data IsStop : TokenKind → Type 0 where
  stop_paren : IsStop RParen
  stop_bracket : IsStop RBracket
  stop_brace : IsStop RBrace
  stop_comma : IsStop Comma
  stop_semi : IsStop Semi
  stop_colon : IsStop Colon
  stop_dots : IsStop Ellipsis

-- such a mark comes next, or nothing
pub data Stop : List Word → Type 0 where
  stop_end : Stop []
  stop_at : {k : TokenKind} {x : Spot} {ws : List Word} → IsStop k → Stop (mark k x ∷ ws)

pub stop_mark : (k : TokenKind) (ts rest : List Word) → IsStop k → Mark k ts rest → Stop ts
stop_mark k ts rest is m = subst Stop (sym m.is) (stop_at is)

pub stop_closes : (separator close : TokenKind) (ts rest : List Word) → IsStop separator → IsStop close → Closes separator close ts rest → Stop ts
stop_closes separator close ts rest is_separator is_close (inl m) = stop_mark close ts rest is_close m
stop_closes separator close ts rest is_separator is_close (inr c) = stop_mark separator ts c.0 is_separator c.1

-- ---- types

no_type_mark : (k : TokenKind) (x : Spot) (ws : List Word) → IsStop k → NoType (mark k x ∷ ws)
no_type_mark _ x ws stop_paren = record { no_name = refl; no_func = refl; no_struct = refl; no_interface = refl; no_bracket = refl; no_map = refl; no_pointer = refl; no_paren = refl }
no_type_mark _ x ws stop_bracket = record { no_name = refl; no_func = refl; no_struct = refl; no_interface = refl; no_bracket = refl; no_map = refl; no_pointer = refl; no_paren = refl }
no_type_mark _ x ws stop_brace = record { no_name = refl; no_func = refl; no_struct = refl; no_interface = refl; no_bracket = refl; no_map = refl; no_pointer = refl; no_paren = refl }
no_type_mark _ x ws stop_comma = record { no_name = refl; no_func = refl; no_struct = refl; no_interface = refl; no_bracket = refl; no_map = refl; no_pointer = refl; no_paren = refl }
no_type_mark _ x ws stop_semi = record { no_name = refl; no_func = refl; no_struct = refl; no_interface = refl; no_bracket = refl; no_map = refl; no_pointer = refl; no_paren = refl }
no_type_mark _ x ws stop_colon = record { no_name = refl; no_func = refl; no_struct = refl; no_interface = refl; no_bracket = refl; no_map = refl; no_pointer = refl; no_paren = refl }
no_type_mark _ x ws stop_dots = record { no_name = refl; no_func = refl; no_struct = refl; no_interface = refl; no_bracket = refl; no_map = refl; no_pointer = refl; no_paren = refl }

pub no_type_stop : (ws : List Word) → Stop ws → NoType ws
no_type_stop [] stop_end = record { no_name = refl; no_func = refl; no_struct = refl; no_interface = refl; no_bracket = refl; no_map = refl; no_pointer = refl; no_paren = refl }
no_type_stop _ (stop_at {k = k} {x = x} {ws = ws} is) = no_type_mark k x ws is

not_or_mark : (k : TokenKind) (x : Spot) (ws : List Word) → IsStop k → first (marked Or) (mark k x ∷ ws) ≡ None
not_or_mark _ x ws stop_paren = refl
not_or_mark _ x ws stop_bracket = refl
not_or_mark _ x ws stop_brace = refl
not_or_mark _ x ws stop_comma = refl
not_or_mark _ x ws stop_semi = refl
not_or_mark _ x ws stop_colon = refl
not_or_mark _ x ws stop_dots = refl

pub not_or_stop : (ws : List Word) → Stop ws → first (marked Or) ws ≡ None
not_or_stop [] stop_end = refl
not_or_stop _ (stop_at {k = k} {x = x} {ws = ws} is) = not_or_mark k x ws is

-- `|`, as between the terms of a union
pub no_type_or : (x : Spot) (ws : List Word) → NoType (mark Or x ∷ ws)
no_type_or x ws = record { no_name = refl; no_func = refl; no_struct = refl; no_interface = refl; no_bracket = refl; no_map = refl; no_pointer = refl; no_paren = refl }

pub no_type_brace : (x : Spot) (ws : List Word) → NoType (mark LBrace x ∷ ws)
no_type_brace x ws = record { no_name = refl; no_func = refl; no_struct = refl; no_interface = refl; no_bracket = refl; no_map = refl; no_pointer = refl; no_paren = refl }

quiet_type_mark : (t : TypeTree) (k : TokenKind) (x : Spot) (ws : List Word) → IsStop k → QuietType t (mark k x ∷ ws)
quiet_type_mark t _ x ws stop_paren = record { no_dot = refl; no_bracket = refl; no_result = λ _. no_type_mark RParen x ws stop_paren }
quiet_type_mark t _ x ws stop_bracket = record { no_dot = refl; no_bracket = refl; no_result = λ _. no_type_mark RBracket x ws stop_bracket }
quiet_type_mark t _ x ws stop_brace = record { no_dot = refl; no_bracket = refl; no_result = λ _. no_type_mark RBrace x ws stop_brace }
quiet_type_mark t _ x ws stop_comma = record { no_dot = refl; no_bracket = refl; no_result = λ _. no_type_mark Comma x ws stop_comma }
quiet_type_mark t _ x ws stop_semi = record { no_dot = refl; no_bracket = refl; no_result = λ _. no_type_mark Semi x ws stop_semi }
quiet_type_mark t _ x ws stop_colon = record { no_dot = refl; no_bracket = refl; no_result = λ _. no_type_mark Colon x ws stop_colon }
quiet_type_mark t _ x ws stop_dots = record { no_dot = refl; no_bracket = refl; no_result = λ _. no_type_mark Ellipsis x ws stop_dots }

pub quiet_type_stop : (t : TypeTree) (ws : List Word) → Stop ws → QuietType t ws
quiet_type_stop t [] stop_end = record { no_dot = refl; no_bracket = refl; no_result = λ _. no_type_stop [] stop_end }
quiet_type_stop t _ (stop_at {k = k} {x = x} {ws = ws} is) = quiet_type_mark t k x ws is

pub quiet_type_or : (t : TypeTree) (x : Spot) (ws : List Word) → QuietType t (mark Or x ∷ ws)
quiet_type_or t x ws = record { no_dot = refl; no_bracket = refl; no_result = λ _. no_type_or x ws }

pub quiet_type_brace : (t : TypeTree) (x : Spot) (ws : List Word) → QuietType t (mark LBrace x ∷ ws)
quiet_type_brace t x ws = record { no_dot = refl; no_bracket = refl; no_result = λ _. no_type_brace x ws }

-- parentheses, behind a type that has no results to come
pub quiet_type_paren : (t : TypeTree) (x : Spot) (ws : List Word) → ends_open t ≡ false → QuietType t (mark LParen x ∷ ws)
quiet_type_paren t x ws closed = record { no_dot = refl; no_bracket = refl; no_result = λ is. absurd cc }

quiet_alone_mark : (t : TypeTree) (k : TokenKind) (x : Spot) (ws : List Word) → IsStop k → QuietAlone t (mark k x ∷ ws)
quiet_alone_mark t _ x ws stop_paren = record { quiet = quiet_type_mark t RParen x ws stop_paren; no_paren = refl; no_brace = refl }
quiet_alone_mark t _ x ws stop_bracket = record { quiet = quiet_type_mark t RBracket x ws stop_bracket; no_paren = refl; no_brace = refl }
quiet_alone_mark t _ x ws stop_brace = record { quiet = quiet_type_mark t RBrace x ws stop_brace; no_paren = refl; no_brace = refl }
quiet_alone_mark t _ x ws stop_comma = record { quiet = quiet_type_mark t Comma x ws stop_comma; no_paren = refl; no_brace = refl }
quiet_alone_mark t _ x ws stop_semi = record { quiet = quiet_type_mark t Semi x ws stop_semi; no_paren = refl; no_brace = refl }
quiet_alone_mark t _ x ws stop_colon = record { quiet = quiet_type_mark t Colon x ws stop_colon; no_paren = refl; no_brace = refl }
quiet_alone_mark t _ x ws stop_dots = record { quiet = quiet_type_mark t Ellipsis x ws stop_dots; no_paren = refl; no_brace = refl }

pub quiet_alone_stop : (t : TypeTree) (ws : List Word) → Stop ws → QuietAlone t ws
quiet_alone_stop t [] stop_end = record { quiet = quiet_type_stop t [] stop_end; no_paren = refl; no_brace = refl }
quiet_alone_stop t _ (stop_at {k = k} {x = x} {ws = ws} is) = quiet_alone_mark t k x ws is

-- ---- expressions

quiet_mark : (s : Site) (least : ℕ) (k : TokenKind) (x : Spot) (ws : List Word) → IsStop k → Quiet s least (mark k x ∷ ws)
quiet_mark s least _ x ws stop_paren = record { no_dot = refl; no_bracket = refl; no_paren = refl; no_brace = λ _. refl; no_operator = refl }
quiet_mark s least _ x ws stop_bracket = record { no_dot = refl; no_bracket = refl; no_paren = refl; no_brace = λ _. refl; no_operator = refl }
quiet_mark s least _ x ws stop_brace = record { no_dot = refl; no_bracket = refl; no_paren = refl; no_brace = λ _. refl; no_operator = refl }
quiet_mark s least _ x ws stop_comma = record { no_dot = refl; no_bracket = refl; no_paren = refl; no_brace = λ _. refl; no_operator = refl }
quiet_mark s least _ x ws stop_semi = record { no_dot = refl; no_bracket = refl; no_paren = refl; no_brace = λ _. refl; no_operator = refl }
quiet_mark s least _ x ws stop_colon = record { no_dot = refl; no_bracket = refl; no_paren = refl; no_brace = λ _. refl; no_operator = refl }
quiet_mark s least _ x ws stop_dots = record { no_dot = refl; no_bracket = refl; no_paren = refl; no_brace = λ _. refl; no_operator = refl }

pub quiet_stop : (s : Site) (least : ℕ) (ws : List Word) → Stop ws → Quiet s least ws
quiet_stop s least [] stop_end = record { no_dot = refl; no_bracket = refl; no_paren = refl; no_brace = λ _. refl; no_operator = refl }
quiet_stop s least _ (stop_at {k = k} {x = x} {ws = ws} is) = quiet_mark s least k x ws is

-- a header's body
pub quiet_header : (least : ℕ) (x : Spot) (ws : List Word) → Quiet Header least (mark LBrace x ∷ ws)
quiet_header least x ws = record { no_dot = refl; no_bracket = refl; no_paren = refl; no_brace = λ e. absurd cc; no_operator = refl }
