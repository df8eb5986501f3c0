-- What is shown of the changes of all nets.
use Rattle.std.proofs.Common.{◌≡◌, ℕ, ◌<◌, ◌≤◌, All, List, [], ◌∷◌, Option, None, Some, length, refl, arith}
use Rattle.std.specs.Prelude.{IfSome}
use Rattle.std.proofs.lemmas.List.{length-map}
use Rattle.std.proofs.lemmas.List.Elements.{All-cons, All-head, All-nil, All-tail, Contains-get_or}
use Rattle.cmb_wave.specs.declared.level.Level.{Level}
use Rattle.cmb_netlist.specs.Netlist.{IsNetlist, Netlist, name_of}
use Rattle.cmb_words.specs.Changes.{IsWindow, Tells}
use Rattle.cmb_words.specs.declared.changed.Changed.{Changed}
use Rattle.cmb_run_text.specs.Chosen.{names_of}
use Rattle.cmb_dump.specs.Shown.{CanShow, IsShown, Shown, TellsShown, count_shown, levels_shown, names_shown, net_shown}
use Rattle.cmb_dump.specs.Inner.Picks.{IsTaken, Picker, changes_of, shown_of}

-- as many names as nets that are shown
pub names-count : (netlist : Netlist) (shown : Shown) → length (names_shown netlist shown) ≡ count_shown (length netlist.names) shown
names-count netlist None = refl
names-count netlist (Some nets) = length-map nets (name_of netlist)

-- they are as few and as short as a netlist's
pub names-few : (netlist : Netlist) (shown : Shown) → IsNetlist netlist → CanShow (length netlist.names) shown → length (names_shown netlist shown) ≤ 65535
names-few netlist None lawful shows = lawful.few
names-few netlist (Some nets) lawful shows = omega (arith, shows.few, length-map nets (name_of netlist))

names_of-short : (netlist : Netlist) (nets : List ℕ) → IsNetlist netlist → All (λ net. net < length netlist.names) nets → All (λ name. length name ≤ 255) (names_of netlist nets)
names_of-short netlist [] lawful within = All-nil (λ name. length name ≤ 255)
names_of-short netlist (net ∷ nets) lawful within =
    let Within : ℕ → Type 0 = λ n. n < length netlist.names in
    All-cons (λ name. length name ≤ 255) (name_of netlist net) (names_of netlist nets) (lawful.short_names net [] (All-head Within net nets within)) (names_of-short netlist nets lawful (All-tail Within net nets within))

pub names-short : (netlist : Netlist) (shown : Shown) → IsNetlist netlist → CanShow (length netlist.names) shown → All (λ name. length name ≤ 255) (names_shown netlist shown)
names-short netlist None lawful shows = lawful.short_names
names-short netlist (Some nets) lawful shows = names_of-short netlist nets lawful shows.within

-- a net that is shown is one of the design's
pub net-within : (count : ℕ) (shown : Shown) (place : ℕ) → CanShow count shown → place < count_shown count shown → net_shown shown place < count
net-within count None place shows within = within
net-within count (Some nets) place shows within = shows.within place 0 within

pub net-shown : (count : ℕ) (shown : Shown) (place : ℕ) → place < count_shown count shown → IsShown shown (net_shown shown place)
net-shown count None place within = tt
net-shown count (Some nets) place within = Contains-get_or nets place 0 within

-- what was picked is a window of the nets that are shown, and tells their levels
pub shown-window : (count horizon from upto : ℕ) (pick : Option Picker) (changed : List Changed) → IfSome pick (λ p. p.count ≡ count) → IfSome pick (IsTaken changed)
    → IsWindow count horizon from upto changed → IsWindow (count_shown count (shown_of pick)) horizon from upto (changes_of pick changed)
shown-window count horizon from upto None changed fits taken window = window
shown-window count horizon from upto (Some p) changed fits taken window = taken.window horizon from upto (rw fits window)

pub shown-tells : (level : ℕ → ℕ → Level) (count from upto : ℕ) (pick : Option Picker) (changed : List Changed) → IfSome pick (λ p. p.count ≡ count) → IfSome pick (IsTaken changed)
    → TellsShown (shown_of pick) level count from upto changed → Tells (levels_shown (shown_of pick) level) (count_shown count (shown_of pick)) from upto (changes_of pick changed)
shown-tells level count from upto None changed fits taken told = record { words = told.words; others = λ net within none. told.others net within tt none }
shown-tells level count from upto (Some p) changed fits taken told = taken.tells level from upto (rw fits told)
