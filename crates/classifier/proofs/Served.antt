-- The parts serve an entry more, or one less.
use Rattle.std.proofs.Common.{◌≡◌, ℕ, zero, suc, ◌<◌, List, [], ◌∷◌, ◌++◌, map, length, get_or, take, drop, sym, refl, ap, ◌∙◌, subst, arith}
use Rattle.std.specs.List.{insert, remove, AllByRecursion}
use Rattle.std.proofs.lemmas.List.{map-append, length-map, take-append-drop}
use Rattle.fields.specs.declared.prefixes.Prefix.{Prefix}
use Rattle.fields.specs.declared.ranges.PortRange.{PortRange}
use Rattle.fields.specs.declared.protocols.Protocol.{Protocol}
use Rattle.fields.specs.declared.flags.FlagMask.{FlagMask}
use Rattle.fields.specs.declared.orders.NetworkOrder.{NetworkOrder}
use Rattle.parts.specs.Meaning.{Meaning}
use Rattle.stores.specs.declared.pairs.Pair.{Pair}
use Rattle.filters.specs.declared.filter.Filter.{Filter}
use Rattle.labels.proofs.Tables.{all_insert, all_delete}
use Rattle.columns.specs.Fields.{Placed, placed, Stand, fresh, ToldColumns}
use Rattle.network.specs.Nodes.{Filed, First, Nodes, Untold, AsksKept, fresh as fresh_nodes}
use Rattle.entries.specs.declared.filter_labels.FilterLabels.{FilterLabels}
use Rattle.entries.specs.Entries.{Entry, entry, row_of, in_columns, in_network}
use Rattle.classifier.specs.declared.classifier.Classifier.{Classifier}
use Rattle.classifier.specs.Standing.{Asked, Serves}
use Rattle.filters.specs.Labels.{new_field_labels, new_node_labels}
use Rattle.classifier.specs.Telling.{Told, Came, Gone}
use Rattle.classifier.proofs.Edited.{field_labels, node_labels, told}

-- a list, cut at a position
pub cut_map : {X Y : Type 0} (f : X → Y) (p : ℕ) (xs : List X) → map f xs ≡ map f (take p xs) ++ map f (drop p xs)
cut_map f p xs = sym (ap (map f) (take-append-drop p xs)) ∙ map-append f (take p xs) (drop p xs)

map_take : {X Y : Type 0} (f : X → Y) (p : ℕ) (xs : List X) → take p (map f xs) ≡ map f (take p xs)
map_take f zero xs = refl
map_take f (suc p) [] = refl
map_take {Y = Y} f (suc p) (x ∷ xs) = ap (λ (ys : List Y). f x ∷ ys) (map_take f p xs)

map_drop : {X Y : Type 0} (f : X → Y) (p : ℕ) (xs : List X) → drop p (map f xs) ≡ map f (drop p xs)
map_drop f zero xs = refl
map_drop f (suc p) [] = refl
map_drop f (suc p) (x ∷ xs) = map_drop f p xs

map_inserted : {X Y : Type 0} (f : X → Y) (p : ℕ) (xs : List X) (x : X) → insert (map f xs) p (f x) ≡ map f (insert xs p x)
map_inserted {Y = Y} f p xs x =
    ap (λ (ys : List Y). ys ++ f x ∷ drop p (map f xs)) (map_take f p xs)
    ∙ ap (λ (ys : List Y). map f (take p xs) ++ f x ∷ ys) (map_drop f p xs)
    ∙ sym (map-append f (take p xs) (x ∷ drop p xs))

-- an element taken out of its place
pub removed_there : {X : Type 0} (before after : List X) (x : X) → remove (before ++ x ∷ after) (length before) ≡ before ++ after
removed_there [] after x = refl
removed_there {X} (y ∷ before) after x = ap (λ (zs : List X). y ∷ zs) (removed_there before after x)

pub got_there : {X : Type 0} (before after : List X) (x d : X) → get_or (before ++ x ∷ after) (length before) d ≡ x
got_there [] after x d = refl
got_there (y ∷ before) after x d = got_there before after x d

abbrev L : Entry → FilterLabels
L y = y.labels

-- as many labels as entries
pub labels_length : (labels : List FilterLabels) (es : List Entry) → labels ≡ map L es → length labels ≡ length es
labels_length labels es beside = ap length beside ∙ length-map es L

-- the labels of the others, where those of one entry are taken out
labels_out : (before after : List Entry) (x : Entry) → remove (map L (before ++ x ∷ after)) (length before) ≡ map L (before ++ after)
labels_out before after x =
    ap (λ (ls : List FilterLabels). remove ls (length before)) (map-append L before (x ∷ after))
    ∙ ap (remove (map L before ++ L x ∷ map L after)) (sym (length-map before L))
    ∙ removed_there (map L before) (map L after) (L x)
    ∙ sym (map-append L before after)

-- the labels at an entry's place are its own
pub labels_at : (labels : List FilterLabels) (before after : List Entry) (x : Entry) (p : ℕ) (d : FilterLabels) → labels ≡ map L (before ++ x ∷ after) → p ≡ length before → get_or labels p d ≡ L x
labels_at labels before after x p d beside at =
    ap (λ (ls : List FilterLabels). get_or ls p d) (beside ∙ map-append L before (x ∷ after))
    ∙ ap (λ (i : ℕ). get_or (map L before ++ L x ∷ map L after) i d) (at ∙ sym (length-map before L))
    ∙ got_there (map L before) (map L after) (L x) d

module _ {A B C D E F S : Type 0} (a : A → Meaning Prefix → Type 0) (b : B → Meaning Prefix → Type 0) (c : C → Meaning PortRange → Type 0) (d : D → Meaning PortRange → Type 0) (e : E → Meaning Protocol → Type 0) (f : F → Meaning FlagMask → Type 0) (s : S → Meaning Pair → Type 0)
    (a' : A → List ℕ → Type 0) (b' : B → List ℕ → Type 0) (c' : C → List ℕ → Type 0) (d' : D → List ℕ → Type 0) (e' : E → List ℕ → Type 0) (f' : F → List ℕ → Type 0) (s' : S → List Pair → Type 0)
    (old new : Classifier A B C D E F S) (asked : Asked) (kept : new.network.order ≡ old.network.order) where
  abbrev net : Entry → Filed
  net = in_network old.network.order.fields

  -- what the network says under the order at entry, it says under the order at exit
  same_order : (es : List Entry) → Nodes s new.network.nodes (map net es) asked.stores 5 → Nodes s new.network.nodes (map (in_network new.network.order.fields) es) asked.stores 5
  same_order es = subst (λ (o : NetworkOrder). Nodes s new.network.nodes (map (in_network o.fields) es) asked.stores 5) (sym kept)

  same_first : (es : List Entry) → AllByRecursion First (map net es) → AllByRecursion First (map (in_network new.network.order.fields) es)
  same_first es = subst (λ (o : NetworkOrder). AllByRecursion First (map (in_network o.fields) es)) (sym kept)

  pub came : (filter : Filter) (labels : FilterLabels) (p : ℕ) (es : List Entry) (n : ℕ × ℕ) → Serves a b c d e f s old es asked
      → Stand a b c d e f new.columns (map in_columns (take p es) ++ placed filter labels.fields ∷ map in_columns (drop p es)) asked.engines
      → n.0 ≡ fresh filter (map in_columns (take p es) ++ map in_columns (drop p es))
      → ToldColumns a' b' c' d' e' f' old.columns new.columns filter (map in_columns (take p es) ++ map in_columns (drop p es))
      → Nodes s new.network.nodes (map net (take p es) ++ net (entry filter labels) ∷ map net (drop p es)) asked.stores 5
      → n.1 ≡ fresh_nodes (map net (take p es) ++ map net (drop p es)) (net (entry filter labels)) 5
      → First (net (entry filter labels))
      → Untold old.network.nodes new.network.nodes (map net (take p es) ++ map net (drop p es)) (net (entry filter labels)) 5
      → AsksKept s' old.network.nodes new.network.nodes
      → new.labels.items ≡ insert old.labels.items p labels
      → Came a b c d e f s a' b' c' d' e' f' s' old new filter p es asked n
  came filter labels p es n h stand nf tf nodes nn first tn ask lab =
      let x : Entry = entry filter labels in
      let before = take p es in
      let after = drop p es in
      let whole : before ++ after ≡ es = take-append-drop p es in
      let stand' : Stand a b c d e f new.columns (map in_columns (before ++ x ∷ after)) asked.engines = subst (λ (ps : List Placed). Stand a b c d e f new.columns ps asked.engines) (sym (map-append in_columns before (x ∷ after))) stand in
      let nodes' : Nodes s new.network.nodes (map net (before ++ x ∷ after)) asked.stores 5 = subst (λ (fs : List Filed). Nodes s new.network.nodes fs asked.stores 5) (sym (map-append net before (x ∷ after))) nodes in
      let firsts : AllByRecursion First (map net before ++ map net after) = subst (λ (fs : List Filed). AllByRecursion First fs) (cut_map net p es) h.first in
      let first' : AllByRecursion First (map net (before ++ x ∷ after)) = subst (λ (fs : List Filed). AllByRecursion First fs) (sym (map-append net before (x ∷ after))) (all_insert First (map net before) (map net after) (net x) firsts first) in
      let order = old.network.order in
      record {
        labels = labels;
        serves = record {
          labels = lab ∙ ap (λ (ls : List FilterLabels). insert ls p labels) h.labels ∙ map_inserted L p es x;
          fields = stand';
          nodes = same_order (before ++ x ∷ after) nodes';
          first = same_first (before ++ x ∷ after) first';
          spare = h.spare;
        };
        field_labels = field_labels order new.columns new.network.nodes h.spare before after x asked.engines asked.stores stand' nodes' first' n.0 nf ∙ ap (λ (ys : List Entry). new_field_labels (row_of x) (map row_of ys)) whole;
        node_labels = node_labels order new.columns new.network.nodes h.spare before after x asked.engines asked.stores stand' nodes' first' n.1 nn ∙ ap (λ (ys : List Entry). new_node_labels order.fields (row_of x) (map row_of ys)) whole;
        told = subst (λ (ys : List Entry). Told a' b' c' d' e' f' s' old new (row_of x) (map row_of ys)) whole (told order new.columns new.network.nodes h.spare before after x asked.engines asked.stores stand' nodes' first' a' b' c' d' e' f' s' old new refl tf tn ask);
      }

  pub gone : (before after : List Entry) (x : Entry) (n : ℕ × ℕ) → Serves a b c d e f s old (before ++ x ∷ after) asked
      → Stand a b c d e f new.columns (map in_columns before ++ map in_columns after) asked.engines
      → n.0 ≡ fresh x.filter (map in_columns before ++ map in_columns after)
      → ToldColumns a' b' c' d' e' f' old.columns new.columns x.filter (map in_columns before ++ map in_columns after)
      → Nodes s new.network.nodes (map net before ++ map net after) asked.stores 5
      → n.1 ≡ fresh_nodes (map net before ++ map net after) (net x) 5
      → Untold old.network.nodes new.network.nodes (map net before ++ map net after) (net x) 5
      → AsksKept s' old.network.nodes new.network.nodes
      → new.labels.items ≡ remove old.labels.items (length before)
      → Gone a b c d e f s a' b' c' d' e' f' s' old new x (before ++ after) asked n
  gone before after x n h stand nf tf nodes nn tn ask lab =
      let order = old.network.order in
      let firsts : AllByRecursion First (map net before ++ map net after) = (all_delete First (map net before) (map net after) (net x) (subst (λ (fs : List Filed). AllByRecursion First fs) (map-append net before (x ∷ after)) h.first)).0 in
      record {
        serves = record {
          labels = lab ∙ ap (λ (ls : List FilterLabels). remove ls (length before)) h.labels ∙ labels_out before after x;
          fields = subst (λ (ps : List Placed). Stand a b c d e f new.columns ps asked.engines) (sym (map-append in_columns before after)) stand;
          nodes = same_order (before ++ after) (subst (λ (fs : List Filed). Nodes s new.network.nodes fs asked.stores 5) (sym (map-append net before after)) nodes);
          first = same_first (before ++ after) (subst (λ (fs : List Filed). AllByRecursion First fs) (sym (map-append net before after)) firsts);
          spare = h.spare;
        };
        field_labels = field_labels order old.columns old.network.nodes h.spare before after x asked.engines asked.stores h.fields h.nodes h.first n.0 nf;
        node_labels = node_labels order old.columns old.network.nodes h.spare before after x asked.engines asked.stores h.fields h.nodes h.first n.1 nn;
        told = told order old.columns old.network.nodes h.spare before after x asked.engines asked.stores h.fields h.nodes h.first a' b' c' d' e' f' s' old new refl tf tn ask;
      }

-- what the parts say of the entries, cut at a position
pub few_cut : {X Y : Type 0} (f : X → Y) (p : ℕ) (xs : List X) → length xs < 96 → length (map f (take p xs) ++ map f (drop p xs)) < 96
few_cut f p xs few = let n = ap length (cut_map f p xs) in let m = length-map xs f in omega arith

pub cut_by : {X Y : Type 0} (P : List Y → Type 0) (f : X → Y) (p : ℕ) (xs : List X) → P (map f xs) → P (map f (take p xs) ++ map f (drop p xs))
cut_by P f p xs = subst P (cut_map f p xs)

pub parted_by : {X Y : Type 0} (P : List Y → Type 0) (f : X → Y) (before after : List X) (x : X) → P (map f (before ++ x ∷ after)) → P (map f before ++ f x ∷ map f after)
parted_by P f before after x = subst P (map-append f before (x ∷ after))
