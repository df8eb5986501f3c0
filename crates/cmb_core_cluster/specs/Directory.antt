-- What a cluster looks up: the place of each net's wave, the nets that it drives and those that it is given, and who reads each given wave.
use Rattle.std.specs.Prelude.{◌≡◌, ℕ, suc, Bool, nat_eq, List, [], ◌∷◌, ◌++◌, if◌then◌else◌, length, map, slice_index_or, Option, Some, None, option_map}
use Rattle.std.specs.List.{range_with_len}
use Rattle.cmb_core_cluster.specs.declared.process.ProcessPin.{ProcessPin}
use Rattle.cmb_core_cluster.specs.declared.process.ProcessRule.TheVariants.{Given}
use Rattle.cmb_core_cluster.specs.declared.directory.Reader.{Reader}
use Rattle.cmb_core_cluster.specs.declared.directory.Directory.{Directory}
use Rattle.cmb_core_cluster.specs.Rows.{Process, is_given}

-- the place of a net in a list of nets
abbrev pub place_in : List ℕ → ℕ → Option ℕ
place_in [] net = None
place_in (first ∷ nets) net = if nat_eq first net then Some 0 else option_map (λ place. suc place) (place_in nets net)

-- of nets or waves with a process each, those that are driven, and those that are given
abbrev pub driven_among : {A : Type 0} → List Process → List A → List A
driven_among [] held = []
driven_among (process ∷ processes) [] = []
driven_among (process ∷ processes) (first ∷ held) =
    if is_given process.rule then driven_among processes held else first ∷ driven_among processes held

abbrev pub given_among : {A : Type 0} → List Process → List A → List A
given_among [] held = []
given_among (process ∷ processes) [] = []
given_among (process ∷ processes) (first ∷ held) =
    if is_given process.rule then first ∷ given_among processes held else given_among processes held

-- the pins that read the wave in a place, of the operands of the process in another
abbrev pub pins_on : ℕ → ℕ → List ProcessPin → List Reader
pins_on place slot [] = []
pins_on place slot (operand ∷ operands) =
    if nat_eq operand.slot place then record { slot = slot; delay = operand.delay } ∷ pins_on place slot operands
    else pins_on place slot operands

-- the pins that read the wave in a place, of all processes, the first of which has this place
abbrev pub readers_from : ℕ → ℕ → List Process → List Reader
readers_from place slot [] = []
readers_from place slot (process ∷ processes) = pins_on place slot process.operands ++ readers_from place (suc slot) processes

-- the wave in a place is given
abbrev pub given_at : List Process → ℕ → Bool
given_at processes place = is_given (slice_index_or processes place (record { rule = Given; operands = []; stimulus = [] })).rule

-- the pins of these processes that read the wave in a place; none are listed of a wave that is driven here
abbrev pub listed_readers : List Process → List Process → ℕ → List Reader
listed_readers all those place = if given_at all place then readers_from place 0 those else []

pub record IsDirectory (processes : List Process) (nets : List ℕ) (directory : Directory) : Type 0 where
  pub places : (net : ℕ) → slice_index_or directory.places.items net None ≡ place_in nets net
  pub driven : directory.driven.items ≡ driven_among processes nets
  pub inputs : directory.inputs.items ≡ given_among processes nets
  pub readers : map (λ list. list.items) directory.readers.items ≡ map (listed_readers processes processes) (range_with_len 0 (length processes))
