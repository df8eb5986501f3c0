use Rattle.std.proofs.Common.{◌≡◌, ◌<◌, ◌^◌, take, true}
use Rattle.std.specs.Char.{is_ascii_digit}
use Rattle.std.specs.List.{list_all}
use Rattle.cmb_design_tables.specs.Fields.{decimal}
use Rattle.cmb_design_tables.proofs.fields.parse_number.Given as goal

abbrev pub invariant-loop-digit : goal.invariant-loop-digit
invariant-loop-digit l = (list_all is_ascii_digit (take l.digit-index l.field) ≡ true) × (l.value ≡ decimal (take l.digit-index l.field)) × (l.value < 10 ^ l.digit-index)
