-- What an edit of one entry does to the others' counts and to the parts, whether it comes or goes.
use Rattle.std.proofs.Common.{◌≡◌, ℕ, suc, ◌+◌, ◌<◌, Bool, true, false, cond, List, [], ◌∷◌, ◌++◌, map, get_or, sym, refl, ap, ◌∙◌, subst, add-one, arith}
use Rattle.std.specs.List.{AllByRecursion}
use Rattle.std.proofs.lemmas.List.{map-append}
use Rattle.fields.specs.Orders.{field_count}
use Rattle.fields.proofs.EachOnce.{all_from_once}
use Rattle.fields.specs.declared.prefixes.Prefix.{Prefix}
use Rattle.fields.specs.declared.ranges.PortRange.{PortRange}
use Rattle.fields.specs.declared.protocols.Protocol.{Protocol}
use Rattle.fields.specs.declared.flags.FlagMask.{FlagMask}
use Rattle.fields.specs.declared.orders.NetworkOrder.{NetworkOrder}
use Rattle.parts.specs.Meaning.{Meaning}
use Rattle.stores.specs.declared.pairs.Pair.{Pair}
use Rattle.filters.specs.declared.filter.Filter.{Filter}
use Rattle.filters.specs.Values.{a_prefix, a_range, a_protocol, a_mask}
use Rattle.filters.specs.Labels.{alone, node_fields, new_field_labels, new_node_labels}
use Rattle.labels.proofs.Tables.{all_delete}
use Rattle.labelling.specs.declared.board.Board.{Board}
use Rattle.columns.specs.declared.columns.Columns.{Columns}
use Rattle.columns.specs.Fields.{Stand, fresh, bit, unused, ToldIf as ToldField, ToldColumns, prefix_eq, range_eq, protocol_eq, flags_eq}
use Rattle.network.specs.Nodes.{Filed, First, Nodes, Untold, AsksKept, fresh as fresh_nodes, unused as unused_node}
use Rattle.entries.specs.Entries.{Entry, row_of, in_columns, in_network}
use Rattle.entries.proofs.FieldLabels.{field_alone, fields_alone}
use Rattle.entries.proofs.NodeLabels.{node_alone, nodes_alone}
use Rattle.entries.proofs.Apart.{Good, field_same, node_same, all_good_entries}
use Rattle.classifier.specs.declared.classifier.Classifier.{Classifier}
use Rattle.classifier.specs.Telling.{ToldIf, Told}

bit_zero : (b : Bool) (n : ℕ) → cond {A = ℕ} b 1 0 ≡ n → n ≡ 0 → b ≡ false
bit_zero true n e z = absurd (omega arith)
bit_zero false n e z = refl

-- the others, told of by one list
others : {X Y : Type 0} (f : X → Y) (before after : List X) → map f before ++ map f after ≡ map f (before ++ after)
others f before after = sym (map-append f before after)

-- one engine
told_field : {V P : Type 0} (eq : V → V → Bool) (agrees : P → List ℕ → Type 0) (value : Filter → V) (j k : ℕ) (old new : P) (x : Entry) (before after : List Entry)
    → bit (unused eq value j x.filter (map in_columns (before ++ after))) ≡ alone (row_of x) (map row_of (before ++ after)) (k ∷ [])
    → ToldField eq agrees value j old new x.filter (map in_columns before ++ map in_columns after)
    → ToldIf agrees (alone (row_of x) (map row_of (before ++ after)) (k ∷ [])) old new
told_field eq agrees value j k old new x before after is t = record {
  untold = λ z. t.untold (ap (unused eq value j x.filter) (others in_columns before after) ∙ bit_zero (unused eq value j x.filter (map in_columns (before ++ after))) (alone (row_of x) (map row_of (before ++ after)) (k ∷ [])) is z);
  asked = t.asked;
}

-- x with the others, as the columns and nodes have them that serve all of them
module _ {A B C D E F S : Type 0} {a : A → Meaning Prefix → Type 0} {b : B → Meaning Prefix → Type 0} {c : C → Meaning PortRange → Type 0} {d : D → Meaning PortRange → Type 0} {e : E → Meaning Protocol → Type 0} {f : F → Meaning FlagMask → Type 0} {s : S → Meaning Pair → Type 0}
    (order : NetworkOrder) (columns : Columns A B C D E F) (nodes : List (Board Pair S)) (spare : Board Pair S) (before after : List Entry) (x : Entry) (asked : ℕ → ℕ) (ns : List ℕ)
    (stand : Stand a b c d e f columns (map in_columns (before ++ x ∷ after)) asked) (net : Nodes s nodes (map (in_network order.fields) (before ++ x ∷ after)) ns 5) (first : AllByRecursion First (map (in_network order.fields) (before ++ x ∷ after))) where
  abbrev Fit : Entry → Type 0
  Fit y = Good {a = a} {b = b} {c = c} {d = d} {e = e} {f = f} {s = s} order.fields columns nodes spare (before ++ x ∷ after) asked ns 5 stand net y

  fit : AllByRecursion Fit (before ++ after) × Fit x
  fit = all_delete Fit before after x (all_good_entries order.fields columns nodes spare (before ++ x ∷ after) asked ns 5 stand net first)

  pub field_labels : (n : ℕ) → n ≡ fresh x.filter (map in_columns before ++ map in_columns after) → n ≡ new_field_labels (row_of x) (map row_of (before ++ after))
  field_labels n h = h ∙ ap (fresh x.filter) (others in_columns before after) ∙ fields_alone x.filter (before ++ after)

  pub node_labels : (n : ℕ) → n ≡ fresh_nodes (map (in_network order.fields) before ++ map (in_network order.fields) after) (in_network order.fields x) 5 → n ≡ new_node_labels order.fields (row_of x) (map row_of (before ++ after))
  node_labels n h =
      h
      ∙ ap (λ (fs : List Filed). fresh_nodes fs (in_network order.fields x) 5) (others (in_network order.fields) before after)
      ∙ nodes_alone order.fields (all_from_once field_count order.fields order.size order.once) Fit (field_same order.fields columns nodes spare (before ++ x ∷ after) asked ns 5 stand net) 5 order.size (node_same order.fields columns nodes spare (before ++ x ∷ after) asked ns 5 stand net) x fit.1 (before ++ after) fit.0 5 (omega arith)

  told_store : (agrees : S → List Pair → Type 0) (old new : S) (j : ℕ) → j < 5 → (unused_node (map (in_network order.fields) before ++ map (in_network order.fields) after) (in_network order.fields x) j ≡ false → new ≡ old) → ((l : List Pair) → agrees old l → agrees new l)
      → ToldIf agrees (alone (row_of x) (map row_of (before ++ after)) (node_fields order.fields (j + 1))) old new
  told_store agrees old new j l same kept = record {
    untold = λ z. same
        (ap (λ (fs : List Filed). unused_node fs (in_network order.fields x) j) (others (in_network order.fields) before after)
        ∙ bit_zero (unused_node (map (in_network order.fields) (before ++ after)) (in_network order.fields x) j) (alone (row_of x) (map row_of (before ++ after)) (node_fields order.fields (suc j)))
        (node_alone order.fields (all_from_once field_count order.fields order.size order.once) Fit (field_same order.fields columns nodes spare (before ++ x ∷ after) asked ns 5 stand net) 5 order.size (node_same order.fields columns nodes spare (before ++ x ∷ after) asked ns 5 stand net) x fit.1 (before ++ after) fit.0 j l)
        (ap (λ (i : ℕ). alone (row_of x) (map row_of (before ++ after)) (node_fields order.fields i)) (sym (add-one j)) ∙ z));
    asked = kept;
  }

  pub told : (a' : A → List ℕ → Type 0) (b' : B → List ℕ → Type 0) (c' : C → List ℕ → Type 0) (d' : D → List ℕ → Type 0) (e' : E → List ℕ → Type 0) (f' : F → List ℕ → Type 0) (s' : S → List Pair → Type 0)
      (old new : Classifier A B C D E F S) → old.network.order ≡ order
      → ToldColumns a' b' c' d' e' f' old.columns new.columns x.filter (map in_columns before ++ map in_columns after)
      → Untold old.network.nodes new.network.nodes (map (in_network order.fields) before ++ map (in_network order.fields) after) (in_network order.fields x) 5
      → AsksKept s' old.network.nodes new.network.nodes
      → Told a' b' c' d' e' f' s' old new (row_of x) (map row_of (before ++ after))
  told a' b' c' d' e' f' s' old new same t u k =
      let es = before ++ after in record {
        source = told_field prefix_eq a' (λ (y : Filter). y.source) 0 1 _ _ x before after (field_alone prefix_eq (λ (y : Filter). y.source) (λ v. a_prefix v.row) 0 1 (λ v w. refl) (λ y. refl) x.filter es) t.source;
        destination = told_field prefix_eq b' (λ (y : Filter). y.destination) 1 2 _ _ x before after (field_alone prefix_eq (λ (y : Filter). y.destination) (λ v. a_prefix v.row) 1 2 (λ v w. refl) (λ y. refl) x.filter es) t.destination;
        source_port = told_field range_eq c' (λ (y : Filter). y.source_port) 2 3 _ _ x before after (field_alone range_eq (λ (y : Filter). y.source_port) (λ v. a_range v.row) 2 3 (λ v w. refl) (λ y. refl) x.filter es) t.source_port;
        destination_port = told_field range_eq d' (λ (y : Filter). y.destination_port) 3 4 _ _ x before after (field_alone range_eq (λ (y : Filter). y.destination_port) (λ v. a_range v.row) 3 4 (λ v w. refl) (λ y. refl) x.filter es) t.destination_port;
        protocol = told_field protocol_eq e' (λ (y : Filter). y.protocol) 4 5 _ _ x before after (field_alone protocol_eq (λ (y : Filter). y.protocol) (λ v. a_protocol v.row) 4 5 (λ v w. refl) (λ y. refl) x.filter es) t.protocol;
        flags = told_field flags_eq f' (λ (y : Filter). y.flags) 5 6 _ _ x before after (field_alone flags_eq (λ (y : Filter). y.flags) (λ v. a_mask v.row) 5 6 (λ v w. refl) (λ y. refl) x.filter es) t.flags;
        stores = λ j z l.
            subst (λ (o : NetworkOrder). ToldIf s' (alone (row_of x) (map row_of es) (node_fields o.fields (j + 1))) (get_or old.network.nodes j z).part (get_or new.network.nodes j z).part) (sym same)
            (told_store s' (get_or old.network.nodes j z).part (get_or new.network.nodes j z).part j l (u j z l) (k j z));
      }
