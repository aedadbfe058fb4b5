-- Readers of declarations and files. Go specification, "Declarations and scope" and "Source file organization".
use Rattle.std.specs.Prelude.{ℕ, zero, suc, max, Bool, true, false, List, [], ◌∷◌, ◌++◌, length, Option, Some, None, nat_le, if◌then◌else◌}
use Rattle.ui_base.specs.declared.value.Spot.{Spot}
use Rattle.ui_base.specs.declared.value.Value.{Value}
use Rattle.ui_base.specs.declared.value.Value.TheVariants as value
use Rattle.ui_scan.specs.declared.kind.TokenKind.TheVariants.{LParen, RParen, LBracket, RBracket, Comma, Semi, Assign, Mul, Tilde, Const, Var, Import as AnImport, «Type» as AType, Func, Package, End}
use Rattle.ui_tree.specs.declared.part.Placed.{Placed}
use Rattle.ui_tree.specs.declared.part.LiteralKind.{LiteralKind}
use Rattle.ui_tree.specs.declared.part.LiteralKind.TheVariants.{Whole, Rune, Text}
use Rattle.ui_tree.specs.declared.part.Group.{Group}
use Rattle.ui_tree.specs.Tree.{TypeTree, MaybeType, Groups, groups_end}
use Rattle.ui_tree.specs.Stmt.{Imported, Import, TypeGroup, Recv, MaybeGroups, no_groups, given_groups, Common, Braces, Decl, common_decl, type_decl, method_decl, func_decl, File}
use Rattle.ui_tree.specs.View.{groups, kept}
use Rattle.ui_grammar.specs.Word.{Word, ident, lit, mark}
use Rattle.ui_grammar.specs.Both.{is_length}
use Rattle.ui_parse.specs.Reader.{Reader, ◌>>=◌, pure, refuse, take_by, marked, named as a_name, expect, expect_name, Ending, parts, more_parts, rest_of}
use Rattle.ui_syntax.specs.declared.site.TypeSite.TheVariants as at
use Rattle.ui_syntax.specs.Cover.{Read}
use Rattle.ui_syntax.specs.Types.{or_refuse, group, is_empty, params, results, bracket_type, plain_type, union_from, tilde_of, maybe_union}
use Rattle.ui_syntax.specs.Read.{readers, type}
use Rattle.ui_stmts.specs.Common.{Sized, sized, names, specs, constant_decl, variable_decl}
use Rattle.ui_stmts.specs.Stmts.{stmt_readers, a_body}

-- ---- two readings side by side: what goes farther counts, and the first where both go as far

unfoldable pub farther : {A : Type 0} → Reader A → Reader A → Reader A
farther p q = λ ws. if nat_le (length (rest_of (p ws))) (length (rest_of (q ws))) then p ws else q ws

-- ---- imports

abbrev pub text_if : LiteralKind → Spot → Value → Option Placed
text_if Text s (value.Str bytes) = Some (record { spot = s; text = bytes })
text_if Text s (value.Whole n) = None
text_if Text s (value.Truth b) = None
text_if Whole s v = None
text_if Rune s v = None

abbrev pub a_string : Word → Option Placed
a_string (ident p) = None
a_string (lit k s v) = text_if k s v
a_string (mark k s) = None

abbrev pub expect_string : Reader Placed
expect_string = take_by a_string pure refuse

abbrev pub imported : Option Placed → Placed → Sized Imported
imported n p = sized (record { name = n; path = p }) 0

-- [ name ] string
unfoldable pub import_spec : Reader (Sized Imported)
import_spec = take_by a_name (λ n. expect_string >>= (λ p. pure (imported (Some n) p))) (expect_string >>= (λ p. pure (imported None p)))

-- ---- type parameters, behind the bracket

pub record TypeParams : Type 0 where
  pub groups : List (Group TypeTree)
  pub waiting : List Placed
  pub depth : ℕ

abbrev pub no_type_params : TypeParams
no_type_params = record { groups = []; waiting = []; depth = 0 }

abbrev pub add_bound : TypeParams → Placed → Option (Read TypeTree) → TypeParams
add_bound ps p None = record { groups = ps.groups; waiting = ps.waiting ++ (p ∷ []); depth = ps.depth }
add_bound ps p (Some t) = record { groups = ps.groups ++ (group (ps.waiting ++ (p ∷ [])) t.tree ∷ []); waiting = []; depth = max ps.depth t.depth }

abbrev pub type_params_ending : Ending TypeParams
type_params_ending = record { may = λ ps. is_empty ps.waiting; must = λ ps. false }

module _ (room : ℕ) where
  -- The budget is one above the room.

  -- Term { "|" Term }, or none
  abbrev pub maybe_bound : Reader (Option (Read TypeTree))
  maybe_bound = take_by (marked Tilde) (λ s. (plain_type room (readers room) >>= or_refuse) >>= (λ t. union_from room (readers room) (tilde_of room (readers room) s t))) (plain_type room (readers room) >>= maybe_union room (readers room))

  abbrev pub type_param : TypeParams → Reader TypeParams
  type_param ps = expect_name >>= (λ p. maybe_bound >>= (λ t. pure (add_bound ps p t)))

  -- Names Bound { "," Names Bound } [ "," ] "]", at least one
  unfoldable pub type_params : Reader TypeParams
  type_params = type_param no_type_params >>= (λ ps. more_parts Comma RBracket type_params_ending type_param ps)

  -- Behind a first part that is an array's length too there has to be a comma.
  abbrev pub apart : TypeParams → Reader TypeParams
  apart ps =
      if is_length (groups kept ps.groups) then (expect Comma >>= (λ _. parts Comma RBracket type_params_ending type_param ps))
      else more_parts Comma RBracket type_params_ending type_param ps

  unfoldable pub type_params_apart : Reader TypeParams
  type_params_apart = type_param no_type_params >>= apart

  -- ---- type declarations

  abbrev pub type_group : Placed → Groups → Bool → TypeTree → TypeGroup
  type_group p gs alias t = record { name = p; params = gs; alias = alias; of = t }

  abbrev pub plain_group : Placed → Bool → Reader (Sized TypeGroup)
  plain_group p alias = type (suc room) >>= (λ t. pure (sized (type_group p groups_end alias t.tree) t.depth))

  abbrev pub bracketed_group : Placed → Spot → Reader (Sized TypeGroup)
  bracketed_group p s = bracket_type room (readers room) at.Plain s >>= (λ t. pure (sized (type_group p groups_end false t.tree) t.depth))

  abbrev pub generic_group : Placed → Reader (Sized TypeGroup)
  generic_group p = type_params_apart >>= (λ ps. type (suc room) >>= (λ t. pure (sized (type_group p (groups kept ps.groups) false t.tree) (max ps.depth t.depth))))

  -- name [ TPars ] Type | name "=" Type
  unfoldable pub type_spec : Reader (Sized TypeGroup)
  type_spec = expect_name >>= (λ p.
      take_by (marked Assign) (λ _. plain_group p true) (take_by (marked LBracket) (λ s. if nat_le 1 room then farther (bracketed_group p s) (generic_group p) else generic_group p) (plain_group p false)))

  -- ---- functions and methods

  abbrev pub recv : Spot → Option Placed → Bool → Placed → Option (List Placed) → Recv
  recv s n pointer of ps = record { spot = s; name = n; pointer = pointer; of = of; params = ps }

  -- [ "[" Names "]" ] ")"
  abbrev pub recv_end : Spot → Option Placed → Bool → Placed → Reader Recv
  recv_end s n pointer of =
      take_by (marked LBracket) (λ _. names >>= (λ ns. expect RBracket >>= (λ _. expect RParen >>= (λ _. pure (recv s n pointer of (Some ns))))))
      (expect RParen >>= (λ _. pure (recv s n pointer of None)))

  abbrev pub recv_of : Spot → Option Placed → Bool → Reader Recv
  recv_of s n pointer = expect_name >>= recv_end s n pointer

  -- a first name: the receiver's, or its type's
  abbrev pub recv_named : Spot → Placed → Reader Recv
  recv_named s p = take_by (marked Mul) (λ _. recv_of s (Some p) true) (take_by a_name (λ of. recv_end s (Some p) false of) (recv_end s None false p))

  -- [ name ] [ "*" ] name [ "[" Names "]" ] ")"
  unfoldable pub receiver : Spot → Reader Recv
  receiver s = take_by a_name (λ p. recv_named s p) (take_by (marked Mul) (λ _. recv_of s None true) refuse)

  pub record Signature : Type 0 where
    pub params : List (Group TypeTree)
    pub of : MaybeType
    pub depth : ℕ

  -- Params [ Type | Params ]
  unfoldable pub signature : Reader Signature
  signature = expect LParen >>= (λ _. params room (readers room) >>= (λ gs. results room (readers room) >>= (λ r. pure (record { params = gs.items; of = r.of; depth = suc (max gs.depth r.depth) }))))

  abbrev pub block : Reader (Sized Braces)
  block = a_body (suc room) (stmt_readers (suc room))

  abbrev pub method_behind : Spot → Recv → Reader (Sized Decl)
  method_behind s r = expect_name >>= (λ n. signature >>= (λ g. block >>= (λ b. pure (sized (method_decl s r n (groups kept g.params) g.of b.of) (max g.depth b.depth)))))

  abbrev pub func_behind : Spot → Placed → MaybeGroups → ℕ → Reader (Sized Decl)
  func_behind s n ps k = signature >>= (λ g. block >>= (λ b. pure (sized (func_decl s n ps (groups kept g.params) g.of b.of) (max k (max g.depth b.depth)))))

  -- behind "func"
  unfoldable pub function : Spot → Reader (Sized Decl)
  function s = take_by (marked LParen) (λ o. receiver o >>= method_behind s)
      (expect_name >>= (λ n. take_by (marked LBracket) (λ _. type_params >>= (λ ps. func_behind s n (given_groups (groups kept ps.groups)) ps.depth)) (func_behind s n no_groups 0)))

  -- ---- declarations and files

  abbrev pub common_of : Sized Common → Sized Decl
  common_of c = sized (common_decl c.of) c.depth

  abbrev pub opened : Reader (Sized Decl) → Reader (Option (Sized Decl))
  opened p = p >>= (λ d. pure (Some d))

  -- a declaration, or none
  unfoldable pub maybe_decl : Reader (Option (Sized Decl))
  maybe_decl = take_by (marked Const) (λ s. opened (constant_decl (suc room) s >>= (λ c. pure (common_of c))))
      (take_by (marked Var) (λ s. opened (variable_decl (suc room) s >>= (λ c. pure (common_of c))))
      (take_by (marked AType) (λ s. opened (specs type_spec >>= (λ ts. pure (sized (type_decl s ts.of) ts.depth))))
      (take_by (marked Func) (λ s. opened (function s)) (pure None))))

  abbrev pub maybe_import : Reader (Option Import)
  maybe_import = take_by (marked AnImport) (λ s. specs import_spec >>= (λ is. pure (Some (record { spot = s; specs = is.of })))) (pure None)

  -- { X ";" }: the number bounds the turns, and each takes a word.
  abbrev pub behind_each : {X : Type 0} → (List X → Reader (List X)) → List X → Option X → Reader (List X)
  behind_each again l None = pure l
  behind_each again l (Some x) = expect Semi >>= (λ _. again (l ++ (x ∷ [])))

  unfoldable pub each_from : {X : Type 0} → Reader (Option X) → ℕ → List X → Reader (List X)
  each_from p zero l = refuse
  each_from p (suc n) l = p >>= behind_each (each_from p n) l

  unfoldable pub each : {X : Type 0} → Reader (Option X) → Reader (List X)
  each p = λ ws. each_from p (suc (length ws)) [] ws

  abbrev pub decl_alone : Option (Sized Decl) → Option Decl
  decl_alone None = None
  decl_alone (Some d) = Some d.of

  abbrev pub decl_part : Reader (Option Decl)
  decl_part = maybe_decl >>= (λ d. pure (decl_alone d))

  -- "package" name ";" { Import ";" } { Decl ";" }
  unfoldable pub file : Reader File
  file = expect Package >>= (λ s. expect_name >>= (λ p. expect Semi >>= (λ _. each maybe_import >>= (λ is. each decl_part >>= (λ ds. pure (record { spot = s; package_name = p; imports = is; decls = ds }))))))

-- the file, behind which the end of the text alone stands
abbrev pub whole_file : ℕ → Reader File
whole_file room = file room >>= (λ f. expect End >>= (λ _. pure f))
