use Rattle.trie.proofs.Trimmed.{held_reached, held_within, held_wiped}
use Rattle.trie.proofs.tree.Tree.remove.Goals as goal

pub bounds-path-row : goal.bounds-path-row
bounds-path-row c = held_reached c.args.self.now.tables c.args.value c.row-row.result c.args.place c.walk-path.result.items c.as_slice-path.result.now c.row-row.ensures c.as_slice-path.ensures.value c.walk-path.ensures c.requires.held

pub bounds-self-last : goal.bounds-self-last
bounds-self-last c = held_within c.args.self.now.tables c.args.value c.row-row.result c.args.place c.walk-path.result.items c.as_slice-path.result.now c.row-row.ensures c.as_slice-path.ensures.value c.walk-path.ensures c.requires.held

pub trim-requires : goal.trim-requires
trim-requires c = held_wiped c.args.self.now.tables c.args.value c.row-row.result c.args.place c.walk-path.result.items c.as_slice-path.result.now c.row-row.ensures c.as_slice-path.ensures.value c.walk-path.ensures c.requires.held c.requires.within
