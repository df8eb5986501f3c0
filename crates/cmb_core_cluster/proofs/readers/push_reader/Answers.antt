use Rattle.std.proofs.Common.{◌++◌, ◌∷◌, [], map, set, sym, ◌∙◌, ap}
use Rattle.std.proofs.lemmas.List.{map-set, get_or-map}
use Rattle.cmb_core_cluster.proofs.readers.push_reader.Goals as goal

pub returns : goal.returns
returns c =
    let read = get_or-map (λ list. list.items) c.args.readers.now c.args.place c.index-readers-place.result [] c.requires in
    map-set (λ list. list.items) c.args.readers.now c.args.place c.push.new.self
    ∙ ap (λ xs. set (map (λ list. list.items) c.args.readers.now) c.args.place xs) (c.in_ok-push.ensures.items ∙ ap (λ xs. xs ++ c.args.reader ∷ []) (sym read))
