-- What is left by writers of words, one after the other.
use Rattle.std.proofs.Common.{◌≡◌, ℕ, true, ◌||◌, List, length, set, refl, ◌∙◌}
use Rattle.std.specs.Prelude.{◌==◌}
use Rattle.std.proofs.lemmas.List.{length-set}
use Rattle.cmb_words.specs.declared.word.Word.{Word}
use Rattle.cmb_engine.specs.Inner.Planes.{Planes, planes_of}
use Rattle.cmb_engine.specs.Inner.Bits.{has}
use Rattle.cmb_engine.specs.Inner.Words.{Writes}
use Rattle.cmb_engine.proofs.SweepFacts.{inserted-keeps, inserted-other}
use Rattle.cmb_engine.proofs.VisitFacts.{kept-false}
use Rattle.cmb_engine.proofs.WordFacts.{levels_of-set_other}

pub writes-none : (words : List Planes) (live marks : List ℕ) → Writes words words live live marks marks
writes-none words live marks =
    record { len = refl; room = refl; live_room = refl; kept = λ m h. h; same = λ m place none. refl; marks = λ m h. h }

-- one word is written, and its slot live from then on
pub writes-one : (words : List Planes) (slot : ℕ) (word : Word) (live more marks marked : List ℕ) → length more ≡ length live → ((m : ℕ) → has more m ≡ (m == slot || has live m))
    → length marked ≡ length marks → ((m : ℕ) → has marks m ≡ true → has marked m ≡ true) → Writes words (set words slot (planes_of word)) live more marks marked
writes-one words slot word live more marks marked live_room inserted room kept = record {
  len = length-set words slot (planes_of word);
  room = room;
  live_room = live_room;
  kept = λ m h. inserted-keeps live more slot m (inserted m) h;
  same = λ m place none. levels_of-set_other words slot m word place (inserted-other live more slot m (inserted m) none);
  marks = kept;
}

pub writes-on : (first second third : List Planes) (live more most marks marked all : List ℕ) → Writes first second live more marks marked → Writes second third more most marked all
    → Writes first third live most marks all
writes-on first second third live more most marks marked all g h = record {
  len = h.len ∙ g.len;
  room = h.room ∙ g.room;
  live_room = h.live_room ∙ g.live_room;
  kept = λ m is. h.kept m (g.kept m is);
  same = λ m place none. h.same m place none ∙ g.same m place (kept-false more most m (h.kept m) none);
  marks = λ m is. h.marks m (g.marks m is);
}
