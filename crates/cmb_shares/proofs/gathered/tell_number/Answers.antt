use Rattle.std.proofs.Common.{◌≡◌, ◌∙◌, ◌+◌, ◌*◌, ◌<◌, ◌++◌, ◌∷◌, [], length, get_or, refl, sym, ap, arith}
use Rattle.std.proofs.lemmas.List.{get_or_default}
use Rattle.cmb_words.specs.Bits.{places_set}
use Rattle.cmb_words.specs.declared.word.Word.{Word}
use Rattle.cmb_engine.proofs.PlaceFacts.{left-few}
use Rattle.cmb_shares.specs.Inner.Gatherings.{Table, table_of}
use Rattle.cmb_shares.proofs.GatherFacts.{same-word, telling-all, telling-next, telling-none, telling-within}
use Rattle.cmb_shares.proofs.gathered.tell_number.Goals as goal

pub loop-place-init : goal.loop-place-init
loop-place-init c =
    let is : c.into_iter-place-iterator.result ≡ places_set (get_or c.args.marks.now c.args.k 0) = cc in
    let few = left-few (get_or c.args.marks.now c.args.k 0) c.into_iter-place-iterator.result is in
    record {
      telling = rw c.reserve.ensures.items (telling-none (table_of c.args.words.now c.args.marks.now) c.args.k c.into_iter-place-iterator.result c.args.all.now.items is c.requires.before);
      room = omega (arith, few, c.in_ok-reserve.ensures.ok);
    }

pub overflow_mul-net : goal.overflow_mul-net
overflow_mul-net c =
    omega (
      arith,
      c.requires.table.few,
      telling-within (table_of c.args.words.now c.args.marks.now) c.args.k c.loop-place.place-iterator c.loop-place.all.items c.loop-place.invariant.telling c.in-Some.place c.next.new.self c.in-Some.ensures.steps c.requires.table,
    )

pub overflow_add-net : goal.overflow_add-net
overflow_add-net c =
    omega (
      arith,
      c.requires.table.few,
      telling-within (table_of c.args.words.now c.args.marks.now) c.args.k c.loop-place.place-iterator c.loop-place.all.items c.loop-place.invariant.telling c.in-Some.place c.next.new.self c.in-Some.ensures.steps c.requires.table,
    )

pub overflow_cast-net-in-loop-place : goal.overflow_cast-net-in-loop-place
overflow_cast-net-in-loop-place c =
    omega (
      arith,
      c.requires.table.few,
      telling-within (table_of c.args.words.now c.args.marks.now) c.args.k c.loop-place.place-iterator c.loop-place.all.items c.loop-place.invariant.telling c.in-Some.place c.next.new.self c.in-Some.ensures.steps c.requires.table,
    )

pub offset_bounds-words-net : goal.offset_bounds-words-net
offset_bounds-words-net c =
    omega (
      arith,
      c.requires.table.few,
      telling-within (table_of c.args.words.now c.args.marks.now) c.args.k c.loop-place.place-iterator c.loop-place.all.items c.loop-place.invariant.telling c.in-Some.place c.next.new.self c.in-Some.ensures.steps c.requires.table,
    )

pub bounds-words-net : goal.bounds-words-net
bounds-words-net c =
    telling-within (table_of c.args.words.now c.args.marks.now) c.args.k c.loop-place.place-iterator c.loop-place.all.items c.loop-place.invariant.telling c.in-Some.place c.next.new.self c.in-Some.ensures.steps c.requires.table

pub loop-place-preserved : goal.loop-place-preserved
loop-place-preserved c =
    let table : Table = table_of c.args.words.now c.args.marks.now in
    let left = c.loop-place.place-iterator in
    let inside : 64 * c.args.k + c.in-Some.place < length c.args.words.now =
    telling-within (table_of c.args.words.now c.args.marks.now) c.args.k c.loop-place.place-iterator c.loop-place.all.items c.loop-place.invariant.telling c.in-Some.place c.next.new.self c.in-Some.ensures.steps c.requires.table in
    let fewer : length left ≡ length c.next.new.self + 1 = ap length c.in-Some.ensures.steps ∙ omega arith in
    record {
      telling = telling-next table c.args.k left c.loop-place.all.items c.loop-place.invariant.telling c.in-Some.place c.next.new.self c.in-Some.ensures.steps (record { net = 64 * c.args.k + c.in-Some.place; word = c.index-words-net.result }) c.push_reserved.new.self.items
          refl (λ d. get_or_default c.args.words.now (64 * c.args.k + c.in-Some.place) d c.index-words-net.result inside ∙ sym c.index-words-net.is)
          (c.push_reserved.ensures.items ∙ ap (λ (word : Word). c.loop-place.all.items ++ record { net = 64 * c.args.k + c.in-Some.place; word = word } ∷ []) (same-word c.index-words-net.result _));
      room = omega (arith, fewer, c.loop-place.invariant.room, c.push_reserved.ensures.len, c.push_reserved.ensures.capacity);
    }

pub returns : goal.returns
returns c = telling-all (table_of c.args.words.now c.args.marks.now) c.args.k c.loop-place.place-iterator c.loop-place.all.items c.loop-place.invariant.telling c.in-None.ensures.steps.0
