-- What partitions of a netlist go by, whatever its nets cost.
use Rattle.std.specs.Prelude.{ℕ, ◌<◌, ◌≤◌, List, length, All}

-- the classes of nets, and the flip-flops whose imports classes are
pub record IsStructure (of_nets imports : List ℕ) : Type 0 where
  pub nets : length of_nets ≤ 65535
  pub below : All (λ class. class < length imports) of_nets
