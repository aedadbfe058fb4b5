-- What the code's places stand for.
use Rattle.ui_used.specs.declared.used.At.{At}
use Rattle.ui_used.specs.Used.{Uses}

abbrev pub uses_of : At → Uses
uses_of a = record { file = a.file.now; names = a.names.now; mentioned = a.mentioned.now }
