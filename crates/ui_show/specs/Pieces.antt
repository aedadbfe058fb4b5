-- The pieces of printed texts. This project's own; basic types are spelled as in the Go specification, "Types".
use Rattle.std.specs.Prelude.{ℕ, Bool, true, false, ◌&&◌, nat_eq, nat_le, List, [], ◌∷◌, ◌++◌, if◌then◌else◌, codes}
use Rattle.std.specs.List.{flat_map}
use Rattle.std.specs.Fmt.{signed_decimal}
use Rattle.hex.specs.Hex.{encode_lower}
use Rattle.ui_base.specs.declared.name.Name.{Name}
use Rattle.ui_base.specs.declared.kind.Basic.{Basic}
use Rattle.ui_base.specs.declared.kind.Basic.TheVariants as basics
use Rattle.ui_base.specs.declared.value.Value.{Value}
use Rattle.ui_base.specs.declared.value.Value.TheVariants.{Whole, Str, Truth}

abbrev pub basic_name : Basic → List ℕ
basic_name basics.Bool = codes "bool"
basic_name basics.Int = codes "int"
basic_name basics.Int8 = codes "int8"
basic_name basics.Int16 = codes "int16"
basic_name basics.Int32 = codes "int32"
basic_name basics.Int64 = codes "int64"
basic_name basics.Uint = codes "uint"
basic_name basics.Uint8 = codes "uint8"
basic_name basics.Uint16 = codes "uint16"
basic_name basics.Uint32 = codes "uint32"
basic_name basics.Uint64 = codes "uint64"
basic_name basics.String = codes "string"
basic_name basics.UntypedBool = codes "untyped bool"
basic_name basics.UntypedInt = codes "untyped int"
basic_name basics.UntypedRune = codes "untyped rune"
basic_name basics.UntypedString = codes "untyped string"
basic_name basics.UntypedNil = codes "untyped nil"

-- a declared name, behind its package's path
abbrev pub qualified : Name → List ℕ
qualified n = n.path ++ codes "." ++ n.name

-- the name of a field or a method, behind its package's path where it isn't exported
abbrev pub selected_by : List ℕ → Name → List ℕ
selected_by [] n = n.name
selected_by (b ∷ bs) n = qualified n

abbrev pub selected : Name → List ℕ
selected n = selected_by n.path n

-- texts, with a separator before each, or before each but the first
abbrev pub tail_of : List ℕ → Bool → List (List ℕ) → List ℕ
tail_of sep behind [] = []
tail_of sep behind (x ∷ xs) = (if behind then sep else []) ++ x ++ tail_of sep true xs

abbrev pub joined : List ℕ → List (List ℕ) → List ℕ
joined sep xs = tail_of sep false xs

-- a byte between double quotes
abbrev pub quoted_byte : ℕ → List ℕ
quoted_byte b =
    if nat_eq b 34 then codes "\\\""
    else if nat_eq b 92 then codes "\\\\"
    else if nat_le 32 b && nat_le b 126 then b ∷ []
    else codes "\\x" ++ encode_lower (b ∷ [])

abbrev pub value_text : Value → List ℕ
value_text (Whole n) = signed_decimal n
value_text (Str s) = codes "\"" ++ flat_map quoted_byte s ++ codes "\""
value_text (Truth b) = if b then codes "true" else codes "false"
