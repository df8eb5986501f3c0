-- How many operands a kind takes, by whether it takes exactly one.
use Rattle.std.proofs.Common.{◌≡◌, List, [], ◌∷◌, false, refl, arith}
use Rattle.cmb_netlist.specs.declared.netlist.Kind.TheVariants.{Not, Buff}
use Rattle.cmb_netlist.specs.declared.netlist.Cell.{Cell}
use Rattle.cmb_netlist.specs.declared.netlist.Cell.TheVariants.{Gate, Flop}
use Rattle.cmb_netlist.specs.Kinds.{takes_one}
use Rattle.cmb_bench.specs.Statement.{Mention}
use Rattle.cmb_bench.specs.Grammar.{HasArity}

pub arity_one : (cell : Cell) (m : Mention) → HasArity cell (m ∷ [])
arity_one (Gate Not) m = refl
arity_one (Gate Buff) m = refl
arity_one Flop m = refl
arity_one _ m = omega arith

pub arity_more : (cell : Cell) (m n : Mention) (ms : List Mention) → takes_one cell ≡ false → HasArity cell (m ∷ n ∷ ms)
arity_more (Gate Not) m n ms more = absurd (cc)
arity_more (Gate Buff) m n ms more = absurd (cc)
arity_more Flop m n ms more = absurd (cc)
arity_more _ m n ms more = omega arith

pub takes_more : (cell : Cell) (m n : Mention) (ms : List Mention) → HasArity cell (m ∷ n ∷ ms) → takes_one cell ≡ false
takes_more (Gate Not) m n ms arity = absurd (omega (arith, arity))
takes_more (Gate Buff) m n ms arity = absurd (omega (arith, arity))
takes_more Flop m n ms arity = absurd (omega (arith, arity))
takes_more _ m n ms arity = refl

pub arity_tail : (cell : Cell) (m n : Mention) (ms : List Mention) → HasArity cell (m ∷ n ∷ ms) → HasArity cell (n ∷ ms)
arity_tail cell m n [] arity = arity_one cell n
arity_tail cell m n (x ∷ ms) arity = arity_more cell n x ms (takes_more cell m n (x ∷ ms) arity)
