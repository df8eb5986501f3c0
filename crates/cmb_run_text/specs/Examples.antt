-- Texts of small designs.
use Rattle.std.specs.Prelude.{ℕ, List, [], ◌∷◌, ◌++◌, None, codes}
use Rattle.cmb_wave.specs.declared.level.Level.TheVariants.{X}
use Rattle.cmb_netlist.specs.declared.netlist.Driver.TheVariants.{Input}
use Rattle.cmb_design_model.specs.Design.{Design}
use Rattle.cmb_run_text.specs.Vcd.{line}

abbrev pub lines : List (List ℕ) → List ℕ
lines [] = []
lines (bytes ∷ rest) = line bytes ++ lines rest

-- a text of declarations and ticks
abbrev pub whole : List (List ℕ) → List (List ℕ) → List ℕ
whole variables ticks =
    lines (codes "$version cmbsim 1 $end" ∷ codes "$timescale 1 ns $end" ∷ codes "$scope module top $end" ∷ [])
    ++ lines variables
    ++ lines (codes "$upscope $end" ∷ codes "$enddefinitions $end" ∷ [])
    ++ lines ticks

-- no nets
abbrev pub nothing : Design
nothing = record {
  netlist = record { names = []; drivers = []; outputs = [] };
  horizon = 1;
  init = X;
  clock = None;
  delays = [];
  stimuli = [];
  clocks = [];
  initial = [];
}

-- INPUT(10), INPUT(G17)
abbrev pub two_inputs : Design
two_inputs = record nothing { netlist = record { names = codes "10" ∷ codes "G17" ∷ []; drivers = Input ∷ Input ∷ []; outputs = [] } }

abbrev pub nothing_text : List ℕ
nothing_text = whole [] (codes "#0" ∷ codes "$dumpvars" ∷ codes "$end" ∷ codes "#1" ∷ [])

abbrev pub two_inputs_text : List ℕ
two_inputs_text =
    whole (codes "$var wire 1 ! \\10 $end" ∷ codes "$var wire 1 \" G17 $end" ∷ [])
    (codes "#0" ∷ codes "$dumpvars" ∷ codes "x!" ∷ codes "x\"" ∷ codes "$end" ∷ codes "#1" ∷ [])

abbrev pub inverter_text : List ℕ
inverter_text =
    whole (codes "$var wire 1 ! a $end" ∷ codes "$var wire 1 \" y $end" ∷ [])
    (codes "#0" ∷ codes "$dumpvars" ∷ codes "0!" ∷ codes "x\"" ∷ codes "$end" ∷ codes "#1" ∷ codes "1\"" ∷ codes "#5" ∷ codes "1!" ∷ codes "#6" ∷ codes "0\"" ∷ codes "#10" ∷ [])

abbrev pub toggle_text : List ℕ
toggle_text =
    whole (codes "$var wire 1 ! q $end" ∷ codes "$var wire 1 \" d $end" ∷ [])
    (codes "#0" ∷ codes "$dumpvars" ∷ codes "0!" ∷ codes "x\"" ∷ codes "$end" ∷ codes "#1" ∷ codes "1\"" ∷ codes "#3" ∷ codes "1!" ∷ codes "#4" ∷ codes "0\"" ∷ codes "#7" ∷ codes "0!" ∷ codes "#8" ∷ codes "1\"" ∷ codes "#11" ∷ codes "1!" ∷ codes "#12" ∷ [])

abbrev pub latch_text : List ℕ
latch_text =
    whole (codes "$var wire 1 ! r $end" ∷ codes "$var wire 1 \" s $end" ∷ codes "$var wire 1 # nq $end" ∷ codes "$var wire 1 $ q $end" ∷ [])
    (codes "#0" ∷ codes "$dumpvars" ∷ codes "1!" ∷ codes "0\"" ∷ codes "x#" ∷ codes "x$" ∷ codes "$end" ∷ codes "#1" ∷ codes "0$" ∷ codes "#2" ∷ codes "1#" ∷ codes "#5" ∷ codes "0!" ∷ codes "#8" ∷ codes "1\"" ∷ codes "#9" ∷ codes "0#" ∷ codes "#10" ∷ codes "1$" ∷ codes "#12" ∷ [])
