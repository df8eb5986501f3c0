use Rattle.std.proofs.Common.{◌≡◌, [], ◌∷◌, ◌++◌, sym, ap, ◌∙◌, arith, map, subst}
use Rattle.std.proofs.lemmas.List.{map-append}
use Rattle.cmb_bench.specs.Statement.{driven_by, driven}
use Rattle.cmb_bench.specs.Inner.Scan.{scan}
use Rattle.cmb_bench.specs.Inner.Views.{statement}
use Rattle.cmb_bench.specs.Inner.Building.{Parses}
use Rattle.cmb_bench.proofs.Parsing.{parse_round, driven_more}
use Rattle.cmb_bench.proofs.parser.read_statements.Goals as goal

pub loop-cursor-preserved : goal.loop-cursor-preserved
loop-cursor-preserved c =
    let items_are : map statement c.push.new.self.items ≡ map statement c.loop-cursor.items.items ++ statement c.in_ok-item.item ∷ [] = ap (map statement) c.in_ok-push.ensures.items ∙ map-append statement c.loop-cursor.items.items _ in
    record {
      parsed = subst (λ ss. Parses [] (scan c.new-cursor.result) ss (scan c.read_statement.new.cursor)) (sym items_are) (parse_round _ _ _ _ _ _ _ c.loop-cursor.invariant.parsed c.next-first.ensures.token c.loop-cursor.invariant.named c.in_ok-item.ensures.read);
      named = c.in_ok-item.ensures.names ∙ ap (λ n. n ++ driven_by (statement c.in_ok-item.item)) c.loop-cursor.invariant.named ∙ sym (ap driven items_are ∙ driven_more (map statement c.loop-cursor.items.items) (statement c.in_ok-item.item));
      fits = omega arith;
    }
