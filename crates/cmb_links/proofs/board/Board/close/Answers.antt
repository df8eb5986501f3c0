use Rattle.std.proofs.Common.{◌≡◌, ◌≤◌, ◌+◌, ◌==◌, [], ◌∷◌, ◌++◌, length, List, ℕ, slice_index, rules, arith, ap, sym, subst, ◌∙◌}
use Rattle.std.proofs.lemmas.List.FromFn.{map-range_with_len_more}
use Rattle.std.specs.Mem.Slots.{slots_items}
use mathlib.Core.Option.{some}
use Rattle.cmb_wave.specs.declared.level.Promise.{Promise}
use Rattle.cmb_links.specs.Promises.{promise_of_word}
use Rattle.cmb_links.proofs.Closing.{Tells, promises_of, closes, few_end}
use Rattle.cmb_links.proofs.Lists.{get_at}
use Rattle.cmb_links.proofs.board.Board.close.Goals as goal

pub push_reserved-requires : goal.push_reserved-requires
push_reserved-requires c = let kept = c.loop-net.invariant in let len = kept.len in let room = kept.room in let more = c.loop-net-test.true in omega arith

pub loop-net-preserved : goal.loop-net-preserved
loop-net-preserved c =
    let kept = c.loop-net.invariant in
    let ws = slots_items c.close_with-closed.result.words in
    let n = c.loop-net.net in
    let word : slice_index ws n ≡ c.word.result = get_at ws n c.word.result 0 c.word.ensures in
    let new : c.of_word.result ≡ promise_of_word n (slice_index ws n) = c.of_word.ensures.parts ∙ ap (promise_of_word n) (sym word) in
    record {
      items = c.push_reserved.ensures.items ∙ (λ i. kept.items i ++ new i ∷ []) ∙ sym (map-range_with_len_more (λ k. promise_of_word k (slice_index ws k)) 0 n n (omega arith));
      len = search rules;
      room = search rules;
    }

pub overflow_cast-finished : goal.overflow_cast-finished
overflow_cast-finished c =
    let ws = slots_items c.close_with-closed.result.words in
    let n = c.self.inside.nets in
    let last = c.close_with-closed.ensures.values.2 in
    let width : length ws ≡ n + 2 = sym c.close_with-closed.result.words.ok.0 ∙ c.close_with-closed.ensures.counts.0 ∙ c.self.invariant.0 in
    let few : slice_index ws (n + 1) ≤ 64 = few_end _ last.0 n ws last.1.0 last.2 width in
    let word : slice_index ws (n + 1) ≡ c.word-finished.result = get_at ws (n + 1) c.word-finished.result 0 c.word-finished.ensures in
    omega arith

pub returns : goal.returns
returns c =
    let ws = slots_items c.close_with-closed.result.words in
    let n = c.self.inside.nets in
    let last = c.close_with-closed.ensures.values.2 in
    let width : length ws ≡ n + 2 = sym c.close_with-closed.result.words.ok.0 ∙ c.close_with-closed.ensures.counts.0 ∙ c.self.invariant.0 in
    let at = last.1.1 ∙ ap (λ m. some m.0) c.join_all-all.ensures.all in
    let told = closes _ last.0 _ n c.args.self c.args.seats.items ws c.requires.seats last.1.0 at last.2 width in
    let stop : slice_index ws n ≡ c.word-is_raised.result = get_at ws n c.word-is_raised.result 0 c.word-is_raised.ensures in
    let count : slice_index ws (n + 1) ≡ c.word-finished.result = get_at ws (n + 1) c.word-finished.result 0 c.word-finished.ensures in
    let over : c.loop-net.net ≡ n = omega arith in
    let promises : promises_of ws n ≡ c.loop-net.promises.items = ap (promises_of ws) (sym over) ∙ sym c.loop-net.invariant.items in
    let ends = subst (λ (z : List Promise × ℕ × ℕ). Tells z.0 (z.1 == 1) z.2 c.args.seats.items) (λ i. (promises i, stop i, count i)) told in
    record {
      nets = search rules;
      words = ends.words;
      raised = ends.stop;
      finished = ends.count;
    }
