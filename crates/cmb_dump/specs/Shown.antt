-- The nets that a text shows: all nets of a design, or those of a list.
use Rattle.std.specs.Prelude.{◌≡◌, ℕ, ◌<◌, ◌≤◌, false, List, Option, None, Some, length, option_map, slice_index, All, Contains, IfSome}
use Rattle.std.specs.List.Sorted.{IsStrictlyIncreasing}
use denote.Ref.{Bor}
use Rattle.cmb_wave.specs.declared.level.Level.{Level}
use Rattle.cmb_netlist.specs.Netlist.{Netlist}
use Rattle.cmb_design_model.specs.Design.{Design}
use Rattle.cmb_run_text.specs.Chosen.{names_of, vcd_of}
use Rattle.cmb_run_text.specs.Vcd.{part_text, vcd}
use Rattle.cmb_words.specs.Changes.{IsStill, TellsNet, is_among}
use Rattle.cmb_words.specs.declared.changed.Changed.{Changed}

-- nets among so many, by rising number
pub record AreAmong (count : ℕ) (nets : List ℕ) : Type 0 where
  pub rising : IsStrictlyIncreasing nets
  pub within : All (λ net. net < count) nets
  pub few : length nets ≤ 65535

-- all nets, or those of a list
abbrev pub Shown : Type 0
Shown = Option (List ℕ)

abbrev pub shown_by : Option (Bor (List ℕ)) → Shown
shown_by nets = option_map (λ list. list.now) nets

-- of a design with so many nets, those of a list are among these
abbrev pub CanShow : ℕ → Shown → Type 0
CanShow count shown = IfSome shown (AreAmong count)

-- how many nets are shown of so many
abbrev pub count_shown : ℕ → Shown → ℕ
count_shown count None = count
count_shown count (Some nets) = length nets

-- their names, in the order of their places
abbrev pub names_shown : Netlist → Shown → List (List ℕ)
names_shown netlist None = netlist.names
names_shown netlist (Some nets) = names_of netlist nets

-- the number of the net at a place
abbrev pub net_shown : Shown → ℕ → ℕ
net_shown None place = place
net_shown (Some nets) place = slice_index nets place

-- their levels, by their places
abbrev pub levels_shown : Shown → (ℕ → ℕ → Level) → ℕ → ℕ → Level
levels_shown shown level place = level (net_shown shown place)

-- a net is shown
abbrev pub IsShown : Shown → ℕ → Type 0
IsShown shown net = IfSome shown (λ nets. Contains nets net)

-- the words tell all changes of the nets that are shown, of so many, at the ticks of [from, upto), and what they tell of other nets is true
pub record TellsShown (shown : Shown) (level : ℕ → ℕ → Level) (count from upto : ℕ) (changed : List Changed) : Type 0 where
  pub words : All (TellsNet level from upto) changed
  pub others : (net : ℕ) → net < count → IsShown shown net → is_among net changed ≡ false → IsStill (level net) from upto

-- of what a text is: a design, and the nets of it that are shown
pub record Subject : Type 0 where
  pub design : Design
  pub shown : Shown

abbrev pub subject_of : Design → Option (Bor (List ℕ)) → Subject
subject_of design nets = record { design = design; shown = shown_by nets }

-- the text up to a tick, and the whole of it
abbrev pub text_upto : Subject → (ℕ → ℕ → Level) → ℕ → List ℕ
text_upto subject level upto = part_text (names_shown subject.design.netlist subject.shown) subject.design.horizon (levels_shown subject.shown level) upto

abbrev pub vcd_shown : Design → Shown → List ℕ
vcd_shown design None = vcd design
vcd_shown design (Some nets) = vcd_of design nets

abbrev pub whole_text : Subject → List ℕ
whole_text subject = vcd_shown subject.design subject.shown
