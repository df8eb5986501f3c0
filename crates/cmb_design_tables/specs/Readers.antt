-- The tables of delays, stimuli, clocks and first levels as texts: their headers, the checks of their records, and the row that a record says.
use Rattle.std.specs.Prelude.{◌++◌, ◌==◌, ◌&&◌, ◌||◌, ℕ, Bool, not, List, [], ◌∷◌, Option, Some, None, is_none, unwrap_or, option_map, option_and_then, slice_index_or, drop, map, length, codes, nat_le, if◌then◌else◌}
use Rattle.std.specs.Str.{bytes_eq}
use Rattle.std.specs.Cmp.Lexicographic.{pointwise}
use Rattle.cmb_netlist.specs.declared.netlist.Cell.TheVariants as cell
use Rattle.cmb_wave.specs.declared.level.Level.{Level}
use Rattle.cmb_wave.specs.declared.level.Level.TheVariants as level
use Rattle.cmb_design_model.specs.Checks.{Check, check, checks_after}
use Rattle.cmb_design_tables.specs.Fields.{number, split_pin}
use Rattle.cmb_netlist.specs.Kinds.{cell_of}
use Rattle.cmb_design_model.specs.Nets.{is_within}
use Rattle.cmb_design_model.specs.declared.fault.DesignFault.TheVariants as fault
use Rattle.cmb_design_model.specs.declared.rows.Delayed.{Delayed}
use Rattle.cmb_design_model.specs.declared.rows.Delayed.TheVariants as delayed
use Rattle.cmb_design_model.specs.declared.rows.DelayRow.{DelayRow}
use Rattle.cmb_design_model.specs.declared.rows.StimulusRow.{StimulusRow}
use Rattle.cmb_design_model.specs.declared.rows.ClockRow.{ClockRow}
use Rattle.cmb_design_model.specs.declared.rows.InitialRow.{InitialRow}

-- ---- any table

-- the checks of the record with a number: the first is to be the header, each other one says a row
abbrev pub record_checks : List (List ℕ) → (ℕ → List (List ℕ) → List Check) → ℕ → List (List ℕ) → List Check
record_checks header row_checks n fields =
    if n == 1 then check (fault.Header n) (not (pointwise bytes_eq fields header)) ∷ [] else row_checks n fields

-- the checks of a table: those of its records in order
abbrev pub table_checks : List (List ℕ) → (ℕ → List (List ℕ) → List Check) → List (List (List ℕ)) → List Check
table_checks header row_checks records = checks_after (λ n earlier fields. record_checks header row_checks n fields) 1 [] records

-- the rows of a table: what its records say, the header aside
abbrev pub table_rows : {X : Type 0} → (List (List ℕ) → X) → List (List (List ℕ)) → List X
table_rows row records = map row (drop 1 records)

-- the field of a record with an index
abbrev pub field : List (List ℕ) → ℕ → List ℕ
field fields i = slice_index_or fields i []

-- the number in a field
abbrev pub value_in : List ℕ → ℕ
value_in text = unwrap_or (number text) 0

-- ---- delays: `by,name,delay`, by kind, by net or by pin

abbrev pub delay_header : List (List ℕ)
delay_header = codes "by" ∷ codes "name" ∷ codes "delay" ∷ []

-- a pin's name is a net's name, a colon and a pin number; the last colon parts them
abbrev pub pin_of : List ℕ → Option (List ℕ × ℕ)
pin_of name = option_and_then (λ p. option_map (λ k. (p.0, k)) (number p.1)) (split_pin name)

abbrev pub delayed_pin : Option (List ℕ × ℕ) → Delayed
delayed_pin None = delayed.Net []
delayed_pin (Some p) = delayed.Pin p.0 p.1

-- what a delay row is about
unfoldable pub delayed_of : List ℕ → List ℕ → Delayed
delayed_of by name =
    if bytes_eq by (codes "kind") then delayed.Kind (unwrap_or (cell_of name) cell.Flop)
    else if bytes_eq by (codes "net") then delayed.Net name
    else delayed_pin (pin_of name)

-- the first field is none of the three words, or it is `kind` and the name is no kind
abbrev pub is_unknown : List ℕ → List ℕ → Bool
is_unknown by name =
    if bytes_eq by (codes "kind") then is_none (cell_of name) else not (bytes_eq by (codes "net") || bytes_eq by (codes "pin"))

unfoldable pub pin_checks : ℕ → List ℕ → List Check
pin_checks n name = check (fault.PinName n) (is_none (pin_of name)) ∷ []

unfoldable pub name_checks : ℕ → List ℕ → List ℕ → List Check
name_checks n by name =
    check (fault.UnknownKind n) (is_unknown by name) ∷ check (fault.PinName n) (bytes_eq by (codes "pin") && is_none (pin_of name)) ∷ []

-- three fields, a number for a delay, a name as its first field says, and a delay of 1 to 1,000,000
unfoldable pub delay_record_checks : ℕ → List (List ℕ) → List Check
delay_record_checks n f =
    check (fault.Fields n) (not (length f == 3)) ∷ check (fault.Number n) (is_none (number (field f 2)))
    ∷ (name_checks n (field f 0) (field f 1) ++ check (fault.DelayRange n) (not (is_within 1 1000000 (value_in (field f 2)))) ∷ [])

unfoldable pub delay_row_of : List (List ℕ) → DelayRow
delay_row_of f = record { what = delayed_of (field f 0) (field f 1); delay = value_in (field f 2) }

-- ---- stimuli: `tick,net,value`

abbrev pub stimulus_header : List (List ℕ)
stimulus_header = codes "tick" ∷ codes "net" ∷ codes "value" ∷ []

-- the level that a value names: 0, 1, x or X
unfoldable pub level_of : List ℕ → Option Level
level_of word =
    if bytes_eq word (codes "0") then Some level.Zero
    else if bytes_eq word (codes "1") then Some level.One
    else if bytes_eq word (codes "x") || bytes_eq word (codes "X") then Some level.X
    else None

-- three fields, a number for a tick, and a value that names a level
unfoldable pub stimulus_record_checks : ℕ → List (List ℕ) → List Check
stimulus_record_checks n f =
    check (fault.Fields n) (not (length f == 3)) ∷ check (fault.Number n) (is_none (number (field f 0)))
    ∷ check (fault.Level n) (is_none (level_of (field f 2))) ∷ []

unfoldable pub stimulus_row_of : List (List ℕ) → StimulusRow
stimulus_row_of f = record { tick = value_in (field f 0); net = field f 1; level = unwrap_or (level_of (field f 2)) level.X }

-- ---- clocks: `net,first,period`

abbrev pub clock_header : List (List ℕ)
clock_header = codes "net" ∷ codes "first" ∷ codes "period" ∷ []

-- three fields, two numbers, a first tick of at most 1,000,000 and a period of 1 to 1,000,000
unfoldable pub clock_record_checks : ℕ → List (List ℕ) → List Check
clock_record_checks n f =
    check (fault.Fields n) (not (length f == 3)) ∷ check (fault.Number n) (is_none (number (field f 1)) || is_none (number (field f 2)))
    ∷ check (fault.ClockRange n) (not (nat_le (value_in (field f 1)) 1000000 && is_within 1 1000000 (value_in (field f 2)))) ∷ []

unfoldable pub clock_row_of : List (List ℕ) → ClockRow
clock_row_of f = record { net = field f 0; first = value_in (field f 1); period = value_in (field f 2) }

-- ---- first levels: `net,value`

abbrev pub initial_header : List (List ℕ)
initial_header = codes "net" ∷ codes "value" ∷ []

-- two fields, and a value that names a level
unfoldable pub initial_record_checks : ℕ → List (List ℕ) → List Check
initial_record_checks n f = check (fault.Fields n) (not (length f == 2)) ∷ check (fault.Level n) (is_none (level_of (field f 1))) ∷ []

unfoldable pub initial_row_of : List (List ℕ) → InitialRow
initial_row_of f = record { net = field f 0; level = unwrap_or (level_of (field f 1)) level.X }
