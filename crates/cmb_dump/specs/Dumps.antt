-- A dump, and the text that it gives.
use Rattle.std.specs.Prelude.{ℕ, List, Option}
use Rattle.cmb_words.specs.declared.changed.Changed.{Changed}
use Rattle.cmb_dump.specs.Shown.{Subject}

-- a window whose text was begun: the tick up to which it goes, and the nets of the design that changed in it
pub record Begun : Type 0 where
  pub upto : ℕ
  pub changed : List Changed

-- of what the text is, the tick up to which it was given, what the last call added to it, the window from that tick on that was begun, and how many nets of this are left to be written
pub record Dump : Type 0 where
  pub subject : Subject
  pub clock : ℕ
  pub text : List ℕ
  pub begun : Option Begun
  pub left : ℕ
