-- The codes are lawful.
use Rattle.std.proofs.Common.{◌≡◌, ℕ, zero, suc, ◌≤◌, inl, inr, None, Some, refl, arith}
use Rattle.std.specs.Prelude.{nat_lt}
use Rattle.std.proofs.lemmas.Bool.{ltb-true}
use Rattle.ui_frame.specs.Laws.{chosen}
use Rattle.ui_strpos.specs.declared.fault.Cause.TheVariants.{BadCode}
use Rattle.ui_strpos.specs.Reading.{Context}
use Rattle.ui_strpos.specs.Elements.{code_below}
use Rattle.ui_strpos.specs.Format.{uint_field, Lawful}
use Rattle.ui_strpos.specs.Laws.{uint_lawful, via_lawful}
use Rattle.ui_base.specs.declared.kind.BinOp.{BinOp}
use Rattle.ui_base.specs.declared.kind.BinOp.TheVariants as bin
use Rattle.ui_base.specs.declared.kind.UnOp.{UnOp}
use Rattle.ui_base.specs.declared.kind.UnOp.TheVariants as un
use Rattle.ui_core.specs.declared.callee.BuiltinFn.{BuiltinFn}
use Rattle.ui_core.specs.declared.callee.BuiltinFn.TheVariants as fn
use Rattle.ui_eexpr.specs.Codes.{unary_code, unary_of, unary, binary_code, binary_of, binary}
use Rattle.ui_eexpr.specs.Codes.{builtin_code, builtin_of, builtin}

-- a code past the last one is refused
past : (n : ℕ) (c : Context) (k : ℕ) → n ≤ k → code_below n c k ≡ None → ⊥
past n c k h e =
    elim (chosen (nat_lt k n) None (Some BadCode) None e) [
      | inl p ↦ (let lt = ltb-true k n p.0 in omega arith)
      | inr p ↦ absurd cc
    ]

unary_back : (v : UnOp) → unary_of (unary_code v) ≡ v
unary_back un.Neg = refl
unary_back un.Flip = refl
unary_back un.Not = refl

unary_again : (c : Context) (n : ℕ) → code_below 3 c n ≡ None
    → unary_code (unary_of n) ≡ n
unary_again c zero e = refl
unary_again c (suc zero) e = refl
unary_again c (suc (suc zero)) e = refl
unary_again c (suc (suc (suc k))) e = absurd (
    past 3 c (suc (suc (suc k))) (omega arith) e)

pub unary_lawful : Lawful unary
unary_lawful =
    via_lawful unary_of unary_code (uint_field (code_below 3))
    (uint_lawful (code_below 3)) unary_back unary_again

binary_back : (v : BinOp) → binary_of (binary_code v) ≡ v
binary_back bin.Add = refl
binary_back bin.Sub = refl
binary_back bin.Mul = refl
binary_back bin.Div = refl
binary_back bin.Rem = refl
binary_back bin.And = refl
binary_back bin.Or = refl
binary_back bin.Xor = refl
binary_back bin.AndNot = refl
binary_back bin.Shl = refl
binary_back bin.Shr = refl
binary_back bin.Equal = refl
binary_back bin.NotEqual = refl
binary_back bin.Less = refl
binary_back bin.LessEqual = refl
binary_back bin.Greater = refl
binary_back bin.GreaterEqual = refl
binary_back bin.LogicalAnd = refl
binary_back bin.LogicalOr = refl

binary_again : (c : Context) (n : ℕ) → code_below 19 c n ≡ None
    → binary_code (binary_of n) ≡ n
binary_again c zero e = refl
binary_again c (suc zero) e = refl
binary_again c (suc (suc zero)) e = refl
binary_again c (suc (suc (suc zero))) e = refl
binary_again c (suc (suc (suc (suc zero)))) e = refl
binary_again c (suc (suc (suc (suc (suc zero))))) e = refl
binary_again c (suc (suc (suc (suc (suc (suc zero)))))) e = refl
binary_again c (suc (suc (suc (suc (suc (suc (suc zero))))))) e = refl
binary_again c (suc (suc (suc (suc (suc (suc (suc (suc zero)))))))) e = refl
binary_again c (suc (suc (suc (suc (suc (suc (suc (suc (suc zero))))))))) e = refl
binary_again c (suc (suc (suc (suc (suc (suc (suc (suc (suc (suc zero)))))))))) e = refl
binary_again c (suc (suc (suc (suc (suc (suc (suc (suc (suc (suc (suc zero))))))))))) e = refl
binary_again c (suc (suc (suc (suc (suc (suc (suc (suc (suc (suc (suc (suc zero)))))))))))) e = refl
binary_again c (suc (suc (suc (suc (suc (suc (suc (suc (suc (suc (suc (suc (suc zero)))))))))))))
    e = refl
binary_again c (suc (suc (suc (suc (suc (suc (suc (suc (suc (suc (suc (suc (suc (suc
    zero)))))))))))))) e = refl
binary_again c (suc (suc (suc (suc (suc (suc (suc (suc (suc (suc (suc (suc (suc (suc (suc
    zero))))))))))))))) e = refl
binary_again c (suc (suc (suc (suc (suc (suc (suc (suc (suc (suc (suc (suc (suc (suc (suc (suc
    zero)))))))))))))))) e = refl
binary_again c (suc (suc (suc (suc (suc (suc (suc (suc (suc (suc (suc (suc (suc (suc (suc (suc
    (suc zero))))))))))))))))) e = refl
binary_again c (suc (suc (suc (suc (suc (suc (suc (suc (suc (suc (suc (suc (suc (suc (suc (suc
    (suc (suc zero)))))))))))))))))) e = refl
binary_again c (suc (suc (suc (suc (suc (suc (suc (suc (suc (suc (suc (suc (suc (suc (suc (suc
    (suc (suc (suc k))))))))))))))))))) e = absurd (
    past 19 c (suc (suc (suc (suc (suc (suc (suc (suc (suc (suc (suc (suc (suc (suc (suc (suc (suc
    (suc (suc k))))))))))))))))))) (omega arith) e)

pub binary_lawful : Lawful binary
binary_lawful =
    via_lawful binary_of binary_code (uint_field (code_below 19))
    (uint_lawful (code_below 19)) binary_back binary_again

builtin_back : (v : BuiltinFn) → builtin_of (builtin_code v) ≡ v
builtin_back fn.Append = refl
builtin_back fn.AppendSpread = refl
builtin_back fn.Cap = refl
builtin_back fn.Copy = refl
builtin_back fn.Delete = refl
builtin_back fn.Len = refl
builtin_back fn.Make = refl
builtin_back fn.Max = refl
builtin_back fn.Min = refl
builtin_back fn.New = refl
builtin_back fn.Panic = refl

builtin_again : (c : Context) (n : ℕ) → code_below 11 c n ≡ None
    → builtin_code (builtin_of n) ≡ n
builtin_again c zero e = refl
builtin_again c (suc zero) e = refl
builtin_again c (suc (suc zero)) e = refl
builtin_again c (suc (suc (suc zero))) e = refl
builtin_again c (suc (suc (suc (suc zero)))) e = refl
builtin_again c (suc (suc (suc (suc (suc zero))))) e = refl
builtin_again c (suc (suc (suc (suc (suc (suc zero)))))) e = refl
builtin_again c (suc (suc (suc (suc (suc (suc (suc zero))))))) e = refl
builtin_again c (suc (suc (suc (suc (suc (suc (suc (suc zero)))))))) e = refl
builtin_again c (suc (suc (suc (suc (suc (suc (suc (suc (suc zero))))))))) e = refl
builtin_again c (suc (suc (suc (suc (suc (suc (suc (suc (suc (suc zero)))))))))) e = refl
builtin_again c (suc (suc (suc (suc (suc (suc (suc (suc (suc (suc (suc k))))))))))) e = absurd (
    past 11 c (suc (suc (suc (suc (suc (suc (suc (suc (suc (suc (suc k))))))))))) (omega arith) e)

pub builtin_lawful : Lawful builtin
builtin_lawful =
    via_lawful builtin_of builtin_code (uint_field (code_below 11))
    (uint_lawful (code_below 11)) builtin_back builtin_again
