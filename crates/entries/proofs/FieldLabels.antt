-- What the columns count in labels is what the filter list counts in values, field by field.
use Rattle.std.proofs.Common.{◌≡◌, ℕ, Bool, cond, eqb, List, [], ◌∷◌, map, sym, refl, ap, ◌∙◌, arith}
use Rattle.filters.specs.declared.filter.Filter.{Filter}
use Rattle.filters.specs.Formed.{plain}
use Rattle.filters.specs.Counting.{some}
use Rattle.filters.specs.Values.{Value, a_prefix, a_range, a_protocol, a_mask, same_value, same_row}
use Rattle.filters.specs.Filters.{field, row}
use Rattle.filters.specs.Labels.{alone, new_field_labels}
use Rattle.labels.specs.Labels.{Standing, occurrences}
use Rattle.columns.specs.Fields.{in_field, unused, bit, fresh, prefix_eq, range_eq, protocol_eq, flags_eq}
use Rattle.entries.specs.Entries.{Entry, row_of, in_columns}
use Rattle.entries.proofs.Passing.{alone_alike, map_map, all_of, and_true}

-- one field: a value of some kind is told by its row
module _ {V : Type 0} (eq : V → V → Bool) (value : Filter → V) (inject : V → Value) (j k : ℕ) (same : (a b : V) → same_value (inject a) (inject b) ≡ eq a b) (is : (f : Filter) → field (plain f) k ≡ inject (value f)) where
  -- two filters have the same value there
  pub same_there : (f g : Filter) → same_value (field (plain f) k) (field (plain g) k) ≡ eq (value f) (value g)
  same_there f g = ap (λ (v : Value). same_value v (field (plain g) k)) (is f) ∙ ap (same_value (inject (value f))) (is g) ∙ same (value f) (value g)

  -- no entry has the filter's value
  pub field_alone : (f : Filter) (es : List Entry) → bit (unused eq value j f (map in_columns es)) ≡ alone (plain f) (map row_of es) (k ∷ [])
  field_alone f es =
      ap (λ (fs : List (Standing V)). bit (eqb (occurrences eq (value f) fs) 0)) (map_map (in_field value j) in_columns es)
      ∙ alone_alike (λ (s : Standing V). eq (value f) s.key) (same_row (row (k ∷ []) (plain f))) (λ (e : Entry). in_field value j (in_columns e)) (λ (e : Entry). row (k ∷ []) (row_of e)) es
      (all_of (λ (e : Entry). eq (value f) (value e.filter) ≡ same_row (row (k ∷ []) (plain f)) (row (k ∷ []) (row_of e)))
      (λ e. sym (same_there f e.filter) ∙ sym (and_true (same_value (field (plain f) k) (field (row_of e) k)))) es)
      ∙ sym (ap (λ (rs : List (List Value)). cond {A = ℕ} (some (same_row (row (k ∷ []) (plain f))) rs) 0 1) (map_map (row (k ∷ [])) row_of es))

-- all six fields
pub fields_alone : (f : Filter) (es : List Entry) → fresh f (map in_columns es) ≡ new_field_labels (plain f) (map row_of es)
fields_alone f es =
    let a = field_alone prefix_eq (λ (x : Filter). x.source) (λ v. a_prefix v.row) 0 1 (λ a b. refl) (λ f. refl) f es in
    let b = field_alone prefix_eq (λ (x : Filter). x.destination) (λ v. a_prefix v.row) 1 2 (λ a b. refl) (λ f. refl) f es in
    let c = field_alone range_eq (λ (x : Filter). x.source_port) (λ v. a_range v.row) 2 3 (λ a b. refl) (λ f. refl) f es in
    let d = field_alone range_eq (λ (x : Filter). x.destination_port) (λ v. a_range v.row) 3 4 (λ a b. refl) (λ f. refl) f es in
    let e = field_alone protocol_eq (λ (x : Filter). x.protocol) (λ v. a_protocol v.row) 4 5 (λ a b. refl) (λ f. refl) f es in
    let g = field_alone flags_eq (λ (x : Filter). x.flags) (λ v. a_mask v.row) 5 6 (λ a b. refl) (λ f. refl) f es in
    omega (arith, a, b, c, d, e, g)
