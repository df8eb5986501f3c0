use Rattle.std.proofs.Common.{◌<◌, List, length, sym, ap, ◌∙◌, rules}
use Rattle.cmb_engine.specs.Inner.Planes.{Planes, planes_of}
use Rattle.cmb_engine.specs.Inner.Words.{levels_of}
use Rattle.cmb_engine.proofs.KnownFacts.{known-inside, known-read}
use Rattle.cmb_engine.proofs.WordFacts.{levels_of-read}
use Rattle.cmb_engine.proofs.ahead.word_of.Goals as goal

pub offset_bounds-ones-slot : goal.offset_bounds-ones-slot
offset_bounds-ones-slot c =
    let within : c.args.slot < length c.in-Some.ones.now = known-inside c.args.words.now c.in-Some.ones.now c.args.slot (rw c.in-Some.is at c.requires.same) c.requires.slot in
    search (rules, within)

pub bounds-ones-slot : goal.bounds-ones-slot
bounds-ones-slot c = known-inside c.args.words.now c.in-Some.ones.now c.args.slot (rw c.in-Some.is at c.requires.same) c.requires.slot

pub returns-in-Some : goal.returns-in-Some
returns-in-Some c = λ place.
    c.known.ensures place
    ∙ sym (known-read c.in-Some.ones.now c.args.slot place (known-inside c.args.words.now c.in-Some.ones.now c.args.slot (rw c.in-Some.is at c.requires.same) c.requires.slot))
    ∙ ap (λ (words : List Planes). levels_of words c.args.slot place) (sym (rw c.in-Some.is at c.requires.same))

pub returns-in-None : goal.returns-in-None
returns-in-None c = λ place. sym (levels_of-read c.args.words.now c.args.slot c.get.result place c.requires.slot (c.get.ensures (planes_of c.get.result)))
