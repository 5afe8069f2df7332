-- Labels tell the standing filters' values apart, in each field and along the nodes.
use Rattle.std.proofs.Common.{◌≡◌, ℕ, zero, suc, ◌-◌, ◌≤◌, Bool, true, false, eqb, leb, List, [], ◌∷◌, map, get_or, Some, None, Decides, Option, sym, refl, ◌∙◌, subst, arith}
use Rattle.std.specs.List.{AllByRecursion}
use Rattle.std.proofs.lemmas.Bool.{eqb-true, eq-eqb, both_ways, and_parts, leb-true}
use Rattle.fields.specs.Orders.{field_count, is_field}
use Rattle.fields.proofs.Values.{prefix_decides, range_decides, protocol_decides, flags_decides}
use Rattle.fields.specs.declared.prefixes.Prefix.{Prefix}
use Rattle.fields.specs.declared.ranges.PortRange.{PortRange}
use Rattle.fields.specs.declared.protocols.Protocol.{Protocol}
use Rattle.fields.specs.declared.flags.FlagMask.{FlagMask}
use Rattle.filters.specs.declared.filter.Filter.{Filter}
use Rattle.filters.specs.Values.{same_value}
use Rattle.filters.specs.Filters.{field}
use Rattle.parts.specs.Meaning.{Meaning}
use Rattle.stores.specs.declared.pairs.Pair.{Pair}
use Rattle.labels.specs.declared.table.Used.{Used}
use Rattle.labels.specs.Labels.{Labelled, here}
use Rattle.labelling.specs.declared.board.Board.{Board}
use Rattle.columns.specs.declared.columns.Columns.{Columns}
use Rattle.columns.specs.Fields.{in_field, Stand, prefix_eq, range_eq, protocol_eq, flags_eq}
use Rattle.network.specs.Nodes.{First, Nodes, alike}
use Rattle.network.proofs.Reached.{label_same, all_good, all_unmap, Good as GoodFiled}
use Rattle.entries.specs.Entries.{Entry, row_of, in_columns, in_network}

both_or_none : (x y : Bool) → (x ≡ true → y ≡ true) → (y ≡ true → x ≡ true) → x ≡ y
both_or_none true true f g = refl
both_or_none true false f g = sym (f refl)
both_or_none false true f g = g refl
both_or_none false false f g = refl

-- one field
module _ {V : Type 0} (eq : V → V → Bool) (law : (a b : V) → Decides (eq a b) (a ≡ b)) (value : Filter → V) (j : ℕ) (slots : List (Option (Used V))) where
  -- the field's table has the entry's value at the entry's label
  abbrev pub Held : Entry → Type 0
  Held e = here eq (value e.filter) (get_or slots (get_or e.labels.fields j 0) None) ≡ true

  one_key : (s : Option (Used V)) (a b : V) → here eq a s ≡ true → here eq b s ≡ true → a ≡ b
  one_key None a b p q = absurd (both_ways false refl p)
  one_key (Some u) a b p q = (law a u.key).0 p ∙ sym ((law b u.key).0 q)

  pub label_value : ((x y : ℕ) (k : V) → here eq k (get_or slots x None) ≡ true → here eq k (get_or slots y None) ≡ true → x ≡ y)
      → (e g : Entry) → Held e → Held g → eqb (get_or e.labels.fields j 0) (get_or g.labels.fields j 0) ≡ eq (value e.filter) (value g.filter)
  label_value single e g he hg =
      let x : ℕ = get_or e.labels.fields j 0 in
      let y : ℕ = get_or g.labels.fields j 0 in
      let v : V = value e.filter in
      let w : V = value g.filter in
      both_or_none (eqb x y) (eq v w)
      (λ h. (law v w).1 (one_key (get_or slots y None) v w (subst (λ (i : ℕ). here eq v (get_or slots i None) ≡ true) (eqb-true x y h) he) hg))
      (λ h. eq-eqb x y (single x y w (subst (λ (k : V). here eq k (get_or slots x None) ≡ true) ((law v w).0 h) he) hg))

  pub all_held : (es : List Entry) → Labelled eq slots (map (in_field value j) (map in_columns es)) → AllByRecursion Held es
  all_held es h = all_unmap in_columns (λ p. here eq (value p.filter) (get_or slots (get_or p.labels j 0) None) ≡ true) es (all_unmap (in_field value j) (λ s. here eq s.key (get_or slots s.label None) ≡ true) (map in_columns es) h.holds)

module _ {A B C D E F S : Type 0} {a : A → Meaning Prefix → Type 0} {b : B → Meaning Prefix → Type 0} {c : C → Meaning PortRange → Type 0} {d : D → Meaning PortRange → Type 0} {e : E → Meaning Protocol → Type 0} {f : F → Meaning FlagMask → Type 0} {s : S → Meaning Pair → Type 0}
    (order : List ℕ) (columns : Columns A B C D E F) (nodes : List (Board Pair S)) (spare : Board Pair S) (es : List Entry) (asked : ℕ → ℕ) (ns : List ℕ) (n : ℕ)
    (stand : Stand a b c d e f columns (map in_columns es) asked) (net : Nodes s nodes (map (in_network order) es) ns n) where
  -- what the tables say of an entry
  pub record Good (x : Entry) : Type 0 where
    pub source : Held prefix_eq prefix_decides (λ (g : Filter). g.source) 0 columns.source.table.slots x
    pub destination : Held prefix_eq prefix_decides (λ (g : Filter). g.destination) 1 columns.destination.table.slots x
    pub source_port : Held range_eq range_decides (λ (g : Filter). g.source_port) 2 columns.source_port.table.slots x
    pub destination_port : Held range_eq range_decides (λ (g : Filter). g.destination_port) 3 columns.destination_port.table.slots x
    pub protocol : Held protocol_eq protocol_decides (λ (g : Filter). g.protocol) 4 columns.protocol.table.slots x
    pub flags : Held flags_eq flags_decides (λ (g : Filter). g.flags) 5 columns.flags.table.slots x
    pub filed : GoodFiled s spare nodes (map (in_network order) es) ns n net (in_network order x)

  pub field_same : (x y : Entry) → Good x → Good y → (k : ℕ) → is_field field_count k ≡ true → eqb (get_or x.labels.fields (k - 1) 0) (get_or y.labels.fields (k - 1) 0) ≡ same_value (field (row_of x) k) (field (row_of y) k)
  field_same x y hx hy zero l = absurd (both_ways false refl l)
  field_same x y hx hy (suc zero) l =
      label_value prefix_eq prefix_decides (λ (g : Filter). g.source) 0 columns.source.table.slots stand.source.labelled.single x y hx.source hy.source
  field_same x y hx hy (suc (suc zero)) l =
      label_value prefix_eq prefix_decides (λ (g : Filter). g.destination) 1 columns.destination.table.slots stand.destination.labelled.single x y hx.destination hy.destination
  field_same x y hx hy (suc (suc (suc zero))) l =
      label_value range_eq range_decides (λ (g : Filter). g.source_port) 2 columns.source_port.table.slots stand.source_port.labelled.single x y hx.source_port hy.source_port
  field_same x y hx hy (suc (suc (suc (suc zero)))) l =
      label_value range_eq range_decides (λ (g : Filter). g.destination_port) 3 columns.destination_port.table.slots stand.destination_port.labelled.single x y hx.destination_port hy.destination_port
  field_same x y hx hy (suc (suc (suc (suc (suc zero))))) l =
      label_value protocol_eq protocol_decides (λ (g : Filter). g.protocol) 4 columns.protocol.table.slots stand.protocol.labelled.single x y hx.protocol hy.protocol
  field_same x y hx hy (suc (suc (suc (suc (suc (suc zero)))))) l =
      label_value flags_eq flags_decides (λ (g : Filter). g.flags) 5 columns.flags.table.slots stand.flags.labelled.single x y hx.flags hy.flags
  field_same x y hx hy (suc (suc (suc (suc (suc (suc (suc k))))))) l =
      absurd (omega (arith, leb-true (suc (suc (suc (suc (suc (suc (suc k))))))) 6 (and_parts (leb 1 (suc (suc (suc (suc (suc (suc (suc k)))))))) (leb (suc (suc (suc (suc (suc (suc (suc k))))))) 6) l).1))

  pub node_same : (m : ℕ) → m ≤ n → (x y : Entry) → Good x → Good y → eqb (get_or x.labels.nodes m 0) (get_or y.labels.nodes m 0) ≡ alike m (in_network order x) (in_network order y)
  node_same m l x y hx hy = label_same s spare nodes (map (in_network order) es) ns n net m l (in_network order x) (in_network order y) hx.filed hy.filed

  pub all_good_entries : AllByRecursion First (map (in_network order) es) → AllByRecursion Good es
  all_good_entries first =
      zipped es
      (all_held prefix_eq prefix_decides (λ (g : Filter). g.source) 0 columns.source.table.slots es stand.source.labelled)
      (all_held prefix_eq prefix_decides (λ (g : Filter). g.destination) 1 columns.destination.table.slots es stand.destination.labelled)
      (all_held range_eq range_decides (λ (g : Filter). g.source_port) 2 columns.source_port.table.slots es stand.source_port.labelled)
      (all_held range_eq range_decides (λ (g : Filter). g.destination_port) 3 columns.destination_port.table.slots es stand.destination_port.labelled)
      (all_held protocol_eq protocol_decides (λ (g : Filter). g.protocol) 4 columns.protocol.table.slots es stand.protocol.labelled)
      (all_held flags_eq flags_decides (λ (g : Filter). g.flags) 5 columns.flags.table.slots es stand.flags.labelled)
      (all_unmap (in_network order) (GoodFiled s spare nodes (map (in_network order) es) ns n net) es (all_good s spare nodes (map (in_network order) es) ns n net first))
    where
      zipped : (xs : List Entry)
          → AllByRecursion (Held prefix_eq prefix_decides (λ (g : Filter). g.source) 0 columns.source.table.slots) xs
          → AllByRecursion (Held prefix_eq prefix_decides (λ (g : Filter). g.destination) 1 columns.destination.table.slots) xs
          → AllByRecursion (Held range_eq range_decides (λ (g : Filter). g.source_port) 2 columns.source_port.table.slots) xs
          → AllByRecursion (Held range_eq range_decides (λ (g : Filter). g.destination_port) 3 columns.destination_port.table.slots) xs
          → AllByRecursion (Held protocol_eq protocol_decides (λ (g : Filter). g.protocol) 4 columns.protocol.table.slots) xs
          → AllByRecursion (Held flags_eq flags_decides (λ (g : Filter). g.flags) 5 columns.flags.table.slots) xs
          → AllByRecursion (λ x. GoodFiled s spare nodes (map (in_network order) es) ns n net (in_network order x)) xs
          → AllByRecursion Good xs
      zipped [] p q r t u v w = tt
      zipped (x ∷ xs) p q r t u v w = (
        record { source = p.0; destination = q.0; source_port = r.0; destination_port = t.0; protocol = u.0; flags = v.0; filed = w.0 },
        zipped xs p.1 q.1 r.1 t.1 u.1 v.1 w.1,
      )
