-- Walks over the numbers of a set by bits.
use Rattle.std.specs.Prelude.{ℕ, ◌+◌, ◌*◌}
use Rattle.cmb_engine.specs.declared.walk.Walk.{Walk}

-- the first number that a walk hasn't passed
abbrev pub walked : Walk → ℕ
walked walk = 64 * walk.word + walk.place
