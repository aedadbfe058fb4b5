mod AliasesOnly
mod AliasesStand
mod WayBack
mod LengthTexts
mod Matched
mod Parted
mod TagsOnly
mod TagsStand
