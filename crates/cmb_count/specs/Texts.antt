-- The counts as a text: a line for each, and below some the names of what was counted, each on a line of its own with a dash in the place of
-- the number.
use Rattle.std.specs.Prelude.{◌≡◌, ℕ, List, [], ◌∷◌, ◌++◌, ◌^◌, ◌-◌, codes, decimal, if◌then◌else◌, nat_lt}
use Rattle.std.specs.Fmt.{format_spec, styled_decimal}
use Rattle.std.specs.List.{flat_map}
use Rattle.cmb_netlist.specs.Netlist.{Netlist, name_of}
use Rattle.cmb_design_model.specs.Design.{Design}
use Rattle.cmb_design_model.specs.declared.rows.Clock.{Clock}
use Rattle.cmb_count.specs.Findings.{AreFindings}
use Rattle.cmb_count.specs.declared.clock_paths.ClockPaths.{ClockPaths}
use Rattle.cmb_count.specs.declared.counts.Counts.{Counts}
use Rattle.cmb_count.specs.declared.counts.GateCounts.{GateCounts}
use Rattle.cmb_count.specs.declared.findings.Findings.{Findings}
use Rattle.cmb_count.specs.declared.paths.Longest.{Longest}
use Rattle.cmb_count.specs.declared.paths.Longest.TheVariants.{NoPath, Path, Unbounded}

-- a number at the right of eight columns, and what it counts
abbrev pub row : ℕ → List ℕ → List ℕ
row number what = styled_decimal (format_spec 32 3 0 8 (2 ^ 64 - 1)) number ++ (codes "  " ++ (what ++ codes "\n"))

abbrev pub rows : List (ℕ × List ℕ) → List ℕ
rows = flat_map (λ it. row it.0 it.1)

abbrev pub name_row : Netlist → ℕ → List ℕ
name_row netlist net = codes "       -  " ++ (name_of netlist net ++ codes "\n")

abbrev pub name_rows : Netlist → List ℕ → List ℕ
name_rows netlist = flat_map (name_row netlist)

abbrev pub input_rows : Netlist → Counts → Findings → List ℕ
input_rows netlist counts findings = rows (
    (counts.nets, codes "nets")
    ∷ (counts.inputs, codes "inputs")
    ∷ (counts.silent, codes "inputs that are x at all ticks")
    ∷ []) ++ name_rows netlist findings.silent.items

abbrev pub gate_rows : GateCounts → List ℕ
gate_rows gates = rows (
    (gates.and, codes "gates AND")
    ∷ (gates.nand, codes "gates NAND")
    ∷ (gates.or, codes "gates OR")
    ∷ (gates.nor, codes "gates NOR")
    ∷ (gates.xor, codes "gates XOR")
    ∷ (gates.xnor, codes "gates XNOR")
    ∷ (gates.not, codes "gates NOT")
    ∷ (gates.buff, codes "gates BUFF")
    ∷ [])

abbrev pub flop_rows : Netlist → Counts → Findings → List ℕ
flop_rows netlist counts findings = rows (
    (counts.flops, codes "flip-flops")
    ∷ (counts.still, codes "flip-flops that never sample")
    ∷ []) ++ name_rows netlist findings.still.items

abbrev pub loop_rows : Netlist → Counts → Findings → List ℕ
loop_rows netlist counts findings = rows (
    (counts.in_loops, codes "nets in feedback loops")
    ∷ (counts.in_gate_loops, codes "nets in loops of gates alone")
    ∷ []) ++ name_rows netlist findings.in_gate_loops.items

abbrev pub unused_rows : Netlist → Counts → Findings → List ℕ
unused_rows netlist counts findings =
    rows ((counts.unused, codes "nets that drive nothing and are no outputs") ∷ []) ++ name_rows netlist findings.unused.items

-- a longest path, and the net where it ends; where gates form a loop on a path, none is the longest
abbrev pub longest_row : Netlist → List ℕ → Longest → List ℕ
longest_row netlist what NoPath = codes "       0  " ++ (what ++ codes ": there is none\n")
longest_row netlist what (Path net ticks) = row ticks what ++ name_row netlist net
longest_row netlist what Unbounded = codes "     inf  " ++ (what ++ codes ": gates form a loop on it\n")

abbrev pub delay_rows : Netlist → Counts → List ℕ
delay_rows netlist counts =
    rows ((counts.largest_delay, codes "ticks in the largest delay") ∷ []) ++ longest_row netlist (codes "ticks in the longest path") counts.longest

abbrev pub own_words : Clock → List ℕ
own_words clock = codes "ticks in the longest path from clock " ++ (decimal clock.first ++ (codes ":" ++ (decimal clock.period ++ codes " to itself")))

abbrev pub input_words : Clock → List ℕ
input_words clock = codes "ticks in the longest path from inputs to clock " ++ (decimal clock.first ++ (codes ":" ++ decimal clock.period))

abbrev pub other_words : Clock → List ℕ
other_words clock = codes "ticks in the longest path from other clocks to clock " ++ (decimal clock.first ++ (codes ":" ++ decimal clock.period))

abbrev pub short_words : Clock → List ℕ
short_words clock = codes "ticks that clock " ++ (decimal clock.first ++ (codes ":" ++ (decimal clock.period ++ codes " is shorter than that path")))

-- the clock's samples follow one another too closely for its longest path
abbrev pub short_row : Clock → Longest → List ℕ
short_row clock NoPath = []
short_row clock (Path net ticks) = if nat_lt clock.period ticks then row (ticks - clock.period) (short_words clock) else []
short_row clock Unbounded = []

abbrev pub path_rows : Netlist → ClockPaths → List ℕ
path_rows netlist paths =
    longest_row netlist (own_words paths.clock) paths.own
    ++ (short_row paths.clock paths.own
    ++ (longest_row netlist (input_words paths.clock) paths.inputs
    ++ longest_row netlist (other_words paths.clock) paths.others))

abbrev pub clock_rows : Netlist → Counts → Findings → List ℕ
clock_rows netlist counts findings = rows ((counts.clocks, codes "different clocks of flip-flops") ∷ []) ++ flat_map (path_rows netlist) findings.clocks.items

abbrev pub table_rows : Counts → List ℕ
table_rows counts = rows (
    (counts.delay_rows, codes "rows of delays")
    ∷ (counts.stimulus_rows, codes "rows of stimuli")
    ∷ (counts.clock_rows, codes "rows of clocks")
    ∷ (counts.initial_rows, codes "rows of first levels")
    ∷ [])

abbrev pub counts_rows : Netlist → Counts → Findings → List ℕ
counts_rows netlist counts findings =
    input_rows netlist counts findings
    ++ (gate_rows counts.gates
    ++ (flop_rows netlist counts findings
    ++ (loop_rows netlist counts findings
    ++ (unused_rows netlist counts findings
    ++ (delay_rows netlist counts
    ++ (clock_rows netlist counts findings
    ++ table_rows counts))))))

-- the text of these counts, with the first so many of what they count
pub record IsCountsText (design : Design) (most : ℕ) (counts : Counts) (text : List ℕ) : Type 0 where
  pub findings : Findings
  pub found : AreFindings design most findings
  pub rows : text ≡ counts_rows design.netlist counts findings
