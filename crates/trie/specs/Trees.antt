-- What the tables of a trie mean. Which bit string a node stands for is its key, and 0 says that the node is free; keys are not kept in memory.
use Rattle.std.specs.Prelude.{◌≡◌, ℕ, ◌+◌, ◌*◌, ◌/◌, ◌^◌, ◌<◌, ◌≤◌, Bool, false, cond, ◌&&◌, ◌⊎◌, List, [], ◌∷◌, length, Some, None, Option, ◌==◌, ◌≢◌, slice_index, slice_index_or, slice_set, is_none}
use Rattle.std.specs.List.{list_all}
use Rattle.fields.specs.declared.prefixes.Prefix.{Prefix}
use Rattle.parts.specs.Meaning.{place_count}
use Rattle.parts.specs.Marks.{hit}
use Rattle.fields.specs.Prefixes.{prefix_takes}
use Rattle.trie.specs.declared.nodes.Node.{Node}
use Rattle.trie.specs.declared.nodes.Tables.{Tables}
use Rattle.trie.specs.Strings.{string, bit_after, codes, first_strings, Among, Distinct, Begins}

-- as many non-empty strings as the prefixes of all places begin with at most, 32 each
abbrev pub below_root : ℕ
below_root = place_count * 32

-- with the root
abbrev pub node_count : ℕ
node_count = below_root + 1

-- nodes, their children and labels

abbrev pub blank : Node
blank = record { label = None; children = 0 ∷ 0 ∷ [] }

abbrev pub no_node : Node
no_node = record { label = None; children = [] }

abbrev pub at : List Node → ℕ → Node
at nodes i = slice_index_or nodes i no_node

-- a child is kept as its number; node 0 is the root, and nobody's child, so 0 is none
abbrev pub present : ℕ → Option ℕ
present c = cond (c == 0) None (Some c)

abbrev pub number_of : Option ℕ → ℕ
number_of None = 0
number_of (Some c) = c

-- the child on a bit, if there is one
abbrev pub child : Node → ℕ → Option ℕ
child node b = present (slice_index_or node.children b 0)

abbrev pub linked : Node → ℕ → Option ℕ → Node
linked n b c = record { label = n.label; children = slice_set n.children b (number_of c) }

abbrev pub labelled : Node → Option ℕ → Node
labelled n o = record { label = o; children = n.children }

abbrev pub is : Option ℕ → ℕ → Bool
is None l = false
is (Some m) l = m == l

-- neither label nor child
abbrev pub bare : Node → Bool
bare n = is_none n.label && list_all (λ c. c == 0) n.children

-- no node in use lacks a child on the way to v
abbrev pub Whole : (ℕ → ℕ) → List Node → ℕ → Type 0
Whole key nodes v = (i b j : ℕ) → 0 < key i → b < 2 → child (at nodes i) b ≡ None → v / 2 ^ j ≢ 2 * key i + b

-- the nodes in use are a tree: a child has one bit more, one string has one node, and each is reached from the root
pub record Shape (key : ℕ → ℕ) (nodes : List Node) : Type 0 where
  pub size : length nodes ≡ node_count
  pub both : (i : ℕ) → 0 < key i → length (at nodes i).children ≡ 2
  pub bound : (i : ℕ) → 0 < key i → i < node_count
  pub root : key 0 ≡ 1
  pub next : (i b c : ℕ) → b < 2 → 0 < key i → child (at nodes i) b ≡ Some c → key c ≡ 2 * key i + b
  pub single : (i j : ℕ) → 0 < key i → 0 < key j → key i ≡ key j → i ≡ j
  pub whole : (j : ℕ) → 0 < key j → Whole key nodes (key j)

-- the stack has free nodes, each once
pub record Stack (key : ℕ → ℕ) (free : List ℕ) : Type 0 where
  pub low : (n : ℕ) → Among n free → n < node_count
  pub some : (n : ℕ) → Among n free → 0 < n
  pub idle : (n : ℕ) → Among n free → key n ≡ 0
  pub once : Distinct free

-- a node has the label of the place whose prefix it is, and each held prefix has its nodes; c is the bits at each place
pub record Named (key : ℕ → ℕ) (nodes : List Node) (c : ℕ → ℕ) : Type 0 where
  pub reached : (l : ℕ) → Whole key nodes (c l)
  pub names : (i l : ℕ) → 0 < key i → is (at nodes i).label l ≡ (c l == key i)

-- ks are the strings of the nodes below the root; with the free ones there are as many as can be needed
pub record Listed (key : ℕ → ℕ) (ks : List ℕ) (spare : ℕ) : Type 0 where
  pub once : Distinct ks
  pub many : length ks + spare ≡ below_root
  pub each : (i : ℕ) → 0 < i → 0 < key i → Among (key i) ks
  pub only : (v : ℕ) → Among v ks → (i : ℕ) × (0 < i) × (0 < key i) × (key i ≡ v)

pub record Frame (t : Tables) (key : ℕ → ℕ) (ks : List ℕ) : Type 0 where
  pub shape : Shape key t.nodes
  pub stack : Stack key t.free.items
  pub named : Named key t.nodes (codes t.places)
  pub listed : Listed key ks (length t.free.items)
  pub size : length t.places ≡ place_count

-- each node below the root is needed: some held prefix begins with its string
abbrev pub Needed : List (Option Prefix) → (ℕ → ℕ) → Type 0
Needed places key = (i : ℕ) → 0 < i → 0 < key i → Begins places (key i)

-- the same but for the nodes of one prefix's first k bits
abbrev pub Nearly : List (Option Prefix) → ℕ → ℕ → (ℕ → ℕ) → Type 0
Nearly places a k key = (i : ℕ) → 0 < i → 0 < key i → Begins places (key i) ⊎ Among (key i) (first_strings a k)

-- the trie of the prefixes at the places
pub record Good (t : Tables) : Type 0 where
  pub key : ℕ → ℕ
  pub ks : List ℕ
  pub frame : Frame t key ks
  pub needed : Needed t.places key

-- a walk towards the first n bits of an address passed these nodes, the root first, and went on as long as there was a next one
pub record Walked (t : Tables) (a n : ℕ) (path : List ℕ) : Type 0 where
  pub good : Good t
  pub some : 0 < length path
  pub within : length path ≤ n + 1
  pub passed : (j : ℕ) → j < length path → good.key (slice_index path j) ≡ string a j
  pub stops : (d : ℕ) → length path ≡ d + 1 → d < n → child (at t.nodes (slice_index path d)) (bit_after a d) ≡ None

-- nodes are being taken for a prefix, and the last is at depth
pub record Growing (t : Tables) (value : Prefix) (node depth : ℕ) : Type 0 where
  pub key : ℕ → ℕ
  pub ks : List ℕ
  pub frame : Frame t key ks
  pub nearly : Nearly t.places value.row.address value.row.length key
  pub for : key node ≡ string value.row.address depth
  pub stops : depth < value.row.length → child (at t.nodes node) (bit_after value.row.address depth) ≡ None
  pub vacant : (p : ℕ) × (p < place_count) × (slice_index_or t.places p None ≡ None)

-- nodes of a prefix that is no longer held are being freed, down to depth
pub record Trimming (t : Tables) (value : Prefix) (path : List ℕ) (depth : ℕ) : Type 0 where
  pub key : ℕ → ℕ
  pub ks : List ℕ
  pub frame : Frame t key ks
  pub nearly : Nearly t.places value.row.address depth key
  pub long : depth < length path
  pub passed : (j : ℕ) → j ≤ depth → key (slice_index path j) ≡ string value.row.address j

-- whether a place holds a prefix that takes the address
abbrev pub hits : List (Option Prefix) → ℕ → ℕ → Bool
hits places a l = hit (λ v. prefix_takes v.row a) (slice_index_or places l None)
