mod Bodies
mod Fronts
mod LiteralValues
mod ScanFaults
