mod HoldingLemmas
mod ClaimLemmas
mod HeldLaws
mod Turns
mod JoinLaws
mod MarkLaws
