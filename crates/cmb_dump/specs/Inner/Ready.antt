-- What a dump needs for each window.
use Rattle.std.specs.Prelude.{◌≡◌, ℕ, ◌≤◌, List, length}
use Rattle.cmb_dump.specs.declared.tail.Tail.{Tail}
use Rattle.cmb_dump.specs.Inner.Tails.{AreTails}

-- a tail for each net, and a bucket for each place of a word
pub record IsReady (nets : ℕ) (tails : List Tail) (buckets : List (List ℕ)) : Type 0 where
  pub count : length tails ≡ nets
  pub few : nets ≤ 65535
  pub right : AreTails tails
  pub places : length buckets ≡ 64
