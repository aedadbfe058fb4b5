-- The numbers of the causes. This project's own.
use Rattle.std.specs.Prelude.{ℕ}
use Rattle.ui_strpos.specs.declared.fault.Cause.{Cause}
use Rattle.ui_strpos.specs.declared.fault.Cause.TheVariants.{WrongCount, Cut, LongNumber, BadBool, BadCode, BadText, BadSection, BadIndex, TableOrder, TableUse, Tail, TypeOrder, BadLocal, Twice, DerivedOrder, NamedUnder, TypeLimit, StubLeft, Stray, WrongPath}

abbrev pub number_of : Cause → ℕ
number_of WrongCount = 1
number_of Cut = 2
number_of LongNumber = 3
number_of BadBool = 4
number_of BadCode = 5
number_of BadText = 6
number_of BadSection = 7
number_of BadIndex = 8
number_of TableOrder = 9
number_of TableUse = 10
number_of Tail = 11
number_of TypeOrder = 12
number_of BadLocal = 13
number_of Twice = 14
number_of DerivedOrder = 15
number_of NamedUnder = 16
number_of TypeLimit = 17
number_of StubLeft = 18
number_of Stray = 19
number_of WrongPath = 20
