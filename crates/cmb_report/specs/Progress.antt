-- How far a text has come after more of a text of waveforms went by: by bytes, as the text may be cut anywhere.
use Rattle.std.specs.Prelude.{ℕ, List, [], ◌∷◌, ◌+◌, ◌-◌, ◌*◌, ◌^◌, ◌||◌, Bool, min, nat_eq, length, if◌then◌else◌}
use Rattle.std.specs.Char.{is_ascii_digit}
use Rattle.cmb_report.specs.declared.text_progress.TextProgress.{TextProgress}
use Rattle.cmb_report.specs.declared.text_progress.At.{At}
use Rattle.cmb_report.specs.declared.text_progress.At.TheVariants.{Start, Tick, Rest}

-- a number that stays at the greatest of 64 bits
abbrev pub limited : ℕ → ℕ
limited number = min number (2 ^ 64 - 1)

-- nothing went by: the next byte begins a line
abbrev pub no_text : TextProgress
no_text = record { bytes = 0; changes = 0; tick = 0; at = Start; digits = 0 }

-- the next byte stands there
abbrev pub placed : TextProgress → At → TextProgress
placed so_far at = record
    { bytes = so_far.bytes; changes = so_far.changes; tick = so_far.tick; at = at; digits = so_far.digits }

-- a line that begins with this byte: `#` a tick, a level a change
abbrev pub begun : TextProgress → ℕ → TextProgress
begun so_far byte =
    if nat_eq byte 10 then placed so_far Start
    else (if nat_eq byte 35 then record
    { bytes = so_far.bytes; changes = so_far.changes; tick = so_far.tick; at = Tick; digits = 0 }
    else (if nat_eq byte 48 || (nat_eq byte 49 || nat_eq byte 120) then record
    { bytes = so_far.bytes; changes = limited (so_far.changes + 1); tick = so_far.tick; at = Rest; digits = so_far.digits }
    else placed so_far Rest))

-- where the byte behind a tick's digits leads
abbrev pub place_after : ℕ → At
place_after byte = if nat_eq byte 10 then Start else Rest

-- a digit of a tick, or the first byte behind them, where the tick is known
abbrev pub counted : TextProgress → ℕ → TextProgress
counted so_far byte =
    if is_ascii_digit byte then record {
      bytes = so_far.bytes;
      changes = so_far.changes;
      tick = so_far.tick;
      at = so_far.at;
      digits = limited (limited (so_far.digits * 10) + (byte - 48));
    }
    else record
    { bytes = so_far.bytes; changes = so_far.changes; tick = so_far.digits; at = place_after byte; digits = so_far.digits }

abbrev pub stepped_at : At → TextProgress → ℕ → TextProgress
stepped_at Start so_far byte = begun so_far byte
stepped_at Tick so_far byte = counted so_far byte
stepped_at Rest so_far byte = placed so_far (place_after byte)

-- one byte more
abbrev pub stepped : TextProgress → ℕ → TextProgress
stepped so_far byte = stepped_at so_far.at so_far byte

-- these bytes more, one after the other
abbrev pub advanced : TextProgress → List ℕ → TextProgress
advanced so_far [] = so_far
advanced so_far (byte ∷ rest) = advanced (stepped so_far byte) rest

-- so many bytes more are counted
abbrev pub lengthened : TextProgress → ℕ → TextProgress
lengthened so_far count = record
    { bytes = limited (so_far.bytes + count); changes = so_far.changes; tick = so_far.tick; at = so_far.at; digits = so_far.digits }

-- these bytes went by, where anything is watched
abbrev pub went_by : Bool → TextProgress → List ℕ → TextProgress
went_by is_watched so_far text = if is_watched then lengthened (advanced so_far text) (length text) else so_far
