-- A field of a row stored: its column, and what is kept. A field read.
use Prim.Native.Nat.{ℕ, zero, suc}
use mathlib.Core.Path.{◌≡◌, refl}
use mathlib.Core.Bool.{Bool, false}
use mathlib.Core.List.{List, [], ◌∷◌}
use lib.ListN.{get_or, set, get_or-map}
use Rattle.columns.specs.Columns.{among}
use Rattle.columns.proofs.Columns.{keep_row}
use Rattle.cells.specs.declared.Node.{Node}
use Rattle.cells.specs.declared.Flags.{Flags}
use Rattle.cells.specs.declared.Stack.{Stack}
use Rattle.cells.specs.declared.Link.{Link}
use Rattle.cells.specs.Tables.{parents, exits, node_column, SameTree, lits, knowns, odds, hots, frees, flag_column, SameFlags, defects, seen, active, front, order_edge, order_parent, stack_column, SameStacks, touched, cnt, fresh, link_column, SameLinks}

but_parent : (r : Node) (v : ℕ) (k : ℕ) → among k (0 ∷ []) ≡ false → node_column k (record r { parent = v }) ≡ node_column k r
but_parent r v zero h = cc
but_parent r v (suc zero) h = refl
but_parent r v (suc (suc k)) h = refl

pub kept_parent : (t : List Node) (x : ℕ) (v : ℕ) (z : Node) → SameTree (0 ∷ []) t (set t x (record (get_or t x z) { parent = v }))
kept_parent t x v z = keep_row t x (record (get_or t x z) { parent = v }) z (but_parent (get_or t x z) v)

but_exit : (r : Node) (v : ℕ) (k : ℕ) → among k (1 ∷ []) ≡ false → node_column k (record r { exit = v }) ≡ node_column k r
but_exit r v zero h = refl
but_exit r v (suc zero) h = cc
but_exit r v (suc (suc k)) h = refl

pub kept_exit : (t : List Node) (x : ℕ) (v : ℕ) (z : Node) → SameTree (1 ∷ []) t (set t x (record (get_or t x z) { exit = v }))
kept_exit t x v z = keep_row t x (record (get_or t x z) { exit = v }) z (but_exit (get_or t x z) v)

but_lit : (r : Flags) (v : Bool) (k : ℕ) → among k (0 ∷ []) ≡ false → flag_column k (record r { lit = v }) ≡ flag_column k r
but_lit r v zero h = cc
but_lit r v (suc zero) h = refl
but_lit r v (suc (suc zero)) h = refl
but_lit r v (suc (suc (suc zero))) h = refl
but_lit r v (suc (suc (suc (suc zero)))) h = refl
but_lit r v (suc (suc (suc (suc (suc zero))))) h = refl
but_lit r v (suc (suc (suc (suc (suc (suc zero)))))) h = refl
but_lit r v (suc (suc (suc (suc (suc (suc (suc zero))))))) h = refl
but_lit r v (suc (suc (suc (suc (suc (suc (suc (suc k)))))))) h = refl

pub kept_lit : (t : List Flags) (x : ℕ) (v : Bool) (z : Flags) → SameFlags (0 ∷ []) t (set t x (record (get_or t x z) { lit = v }))
kept_lit t x v z = keep_row t x (record (get_or t x z) { lit = v }) z (but_lit (get_or t x z) v)

but_known : (r : Flags) (v : Bool) (k : ℕ) → among k (1 ∷ []) ≡ false → flag_column k (record r { known = v }) ≡ flag_column k r
but_known r v zero h = refl
but_known r v (suc zero) h = cc
but_known r v (suc (suc zero)) h = refl
but_known r v (suc (suc (suc zero))) h = refl
but_known r v (suc (suc (suc (suc zero)))) h = refl
but_known r v (suc (suc (suc (suc (suc zero))))) h = refl
but_known r v (suc (suc (suc (suc (suc (suc zero)))))) h = refl
but_known r v (suc (suc (suc (suc (suc (suc (suc zero))))))) h = refl
but_known r v (suc (suc (suc (suc (suc (suc (suc (suc k)))))))) h = refl

pub kept_known : (t : List Flags) (x : ℕ) (v : Bool) (z : Flags) → SameFlags (1 ∷ []) t (set t x (record (get_or t x z) { known = v }))
kept_known t x v z = keep_row t x (record (get_or t x z) { known = v }) z (but_known (get_or t x z) v)

but_odd : (r : Flags) (v : Bool) (k : ℕ) → among k (2 ∷ []) ≡ false → flag_column k (record r { odd = v }) ≡ flag_column k r
but_odd r v zero h = refl
but_odd r v (suc zero) h = refl
but_odd r v (suc (suc zero)) h = cc
but_odd r v (suc (suc (suc zero))) h = refl
but_odd r v (suc (suc (suc (suc zero)))) h = refl
but_odd r v (suc (suc (suc (suc (suc zero))))) h = refl
but_odd r v (suc (suc (suc (suc (suc (suc zero)))))) h = refl
but_odd r v (suc (suc (suc (suc (suc (suc (suc zero))))))) h = refl
but_odd r v (suc (suc (suc (suc (suc (suc (suc (suc k)))))))) h = refl

pub kept_odd : (t : List Flags) (x : ℕ) (v : Bool) (z : Flags) → SameFlags (2 ∷ []) t (set t x (record (get_or t x z) { odd = v }))
kept_odd t x v z = keep_row t x (record (get_or t x z) { odd = v }) z (but_odd (get_or t x z) v)

but_hot : (r : Flags) (v : Bool) (k : ℕ) → among k (3 ∷ []) ≡ false → flag_column k (record r { hot = v }) ≡ flag_column k r
but_hot r v zero h = refl
but_hot r v (suc zero) h = refl
but_hot r v (suc (suc zero)) h = refl
but_hot r v (suc (suc (suc zero))) h = cc
but_hot r v (suc (suc (suc (suc zero)))) h = refl
but_hot r v (suc (suc (suc (suc (suc zero))))) h = refl
but_hot r v (suc (suc (suc (suc (suc (suc zero)))))) h = refl
but_hot r v (suc (suc (suc (suc (suc (suc (suc zero))))))) h = refl
but_hot r v (suc (suc (suc (suc (suc (suc (suc (suc k)))))))) h = refl

pub kept_hot : (t : List Flags) (x : ℕ) (v : Bool) (z : Flags) → SameFlags (3 ∷ []) t (set t x (record (get_or t x z) { hot = v }))
kept_hot t x v z = keep_row t x (record (get_or t x z) { hot = v }) z (but_hot (get_or t x z) v)

but_free : (r : Flags) (v : Bool) (k : ℕ) → among k (4 ∷ []) ≡ false → flag_column k (record r { free = v }) ≡ flag_column k r
but_free r v zero h = refl
but_free r v (suc zero) h = refl
but_free r v (suc (suc zero)) h = refl
but_free r v (suc (suc (suc zero))) h = refl
but_free r v (suc (suc (suc (suc zero)))) h = cc
but_free r v (suc (suc (suc (suc (suc zero))))) h = refl
but_free r v (suc (suc (suc (suc (suc (suc zero)))))) h = refl
but_free r v (suc (suc (suc (suc (suc (suc (suc zero))))))) h = refl
but_free r v (suc (suc (suc (suc (suc (suc (suc (suc k)))))))) h = refl

pub kept_free : (t : List Flags) (x : ℕ) (v : Bool) (z : Flags) → SameFlags (4 ∷ []) t (set t x (record (get_or t x z) { free = v }))
kept_free t x v z = keep_row t x (record (get_or t x z) { free = v }) z (but_free (get_or t x z) v)

but_defect : (r : Stack) (v : ℕ) (k : ℕ) → among k (0 ∷ []) ≡ false → stack_column k (record r { defect = v }) ≡ stack_column k r
but_defect r v zero h = cc
but_defect r v (suc zero) h = refl
but_defect r v (suc (suc zero)) h = refl
but_defect r v (suc (suc (suc zero))) h = refl
but_defect r v (suc (suc (suc (suc zero)))) h = refl
but_defect r v (suc (suc (suc (suc (suc zero))))) h = refl
but_defect r v (suc (suc (suc (suc (suc (suc k)))))) h = refl

pub kept_defect : (t : List Stack) (x : ℕ) (v : ℕ) (z : Stack) → SameStacks (0 ∷ []) t (set t x (record (get_or t x z) { defect = v }))
kept_defect t x v z = keep_row t x (record (get_or t x z) { defect = v }) z (but_defect (get_or t x z) v)

but_seen : (r : Stack) (v : ℕ) (k : ℕ) → among k (1 ∷ []) ≡ false → stack_column k (record r { seen = v }) ≡ stack_column k r
but_seen r v zero h = refl
but_seen r v (suc zero) h = cc
but_seen r v (suc (suc zero)) h = refl
but_seen r v (suc (suc (suc zero))) h = refl
but_seen r v (suc (suc (suc (suc zero)))) h = refl
but_seen r v (suc (suc (suc (suc (suc zero))))) h = refl
but_seen r v (suc (suc (suc (suc (suc (suc k)))))) h = refl

pub kept_seen : (t : List Stack) (x : ℕ) (v : ℕ) (z : Stack) → SameStacks (1 ∷ []) t (set t x (record (get_or t x z) { seen = v }))
kept_seen t x v z = keep_row t x (record (get_or t x z) { seen = v }) z (but_seen (get_or t x z) v)

but_active : (r : Stack) (v : ℕ) (k : ℕ) → among k (2 ∷ []) ≡ false → stack_column k (record r { active = v }) ≡ stack_column k r
but_active r v zero h = refl
but_active r v (suc zero) h = refl
but_active r v (suc (suc zero)) h = cc
but_active r v (suc (suc (suc zero))) h = refl
but_active r v (suc (suc (suc (suc zero)))) h = refl
but_active r v (suc (suc (suc (suc (suc zero))))) h = refl
but_active r v (suc (suc (suc (suc (suc (suc k)))))) h = refl

pub kept_active : (t : List Stack) (x : ℕ) (v : ℕ) (z : Stack) → SameStacks (2 ∷ []) t (set t x (record (get_or t x z) { active = v }))
kept_active t x v z = keep_row t x (record (get_or t x z) { active = v }) z (but_active (get_or t x z) v)

but_front : (r : Stack) (v : ℕ) (k : ℕ) → among k (3 ∷ []) ≡ false → stack_column k (record r { front = v }) ≡ stack_column k r
but_front r v zero h = refl
but_front r v (suc zero) h = refl
but_front r v (suc (suc zero)) h = refl
but_front r v (suc (suc (suc zero))) h = cc
but_front r v (suc (suc (suc (suc zero)))) h = refl
but_front r v (suc (suc (suc (suc (suc zero))))) h = refl
but_front r v (suc (suc (suc (suc (suc (suc k)))))) h = refl

pub kept_front : (t : List Stack) (x : ℕ) (v : ℕ) (z : Stack) → SameStacks (3 ∷ []) t (set t x (record (get_or t x z) { front = v }))
kept_front t x v z = keep_row t x (record (get_or t x z) { front = v }) z (but_front (get_or t x z) v)

but_order_edge : (r : Stack) (v : ℕ) (k : ℕ) → among k (4 ∷ []) ≡ false → stack_column k (record r { order_edge = v }) ≡ stack_column k r
but_order_edge r v zero h = refl
but_order_edge r v (suc zero) h = refl
but_order_edge r v (suc (suc zero)) h = refl
but_order_edge r v (suc (suc (suc zero))) h = refl
but_order_edge r v (suc (suc (suc (suc zero)))) h = cc
but_order_edge r v (suc (suc (suc (suc (suc zero))))) h = refl
but_order_edge r v (suc (suc (suc (suc (suc (suc k)))))) h = refl

pub kept_order_edge : (t : List Stack) (x : ℕ) (v : ℕ) (z : Stack) → SameStacks (4 ∷ []) t (set t x (record (get_or t x z) { order_edge = v }))
kept_order_edge t x v z = keep_row t x (record (get_or t x z) { order_edge = v }) z (but_order_edge (get_or t x z) v)

but_order_parent : (r : Stack) (v : ℕ) (k : ℕ) → among k (5 ∷ []) ≡ false → stack_column k (record r { order_parent = v }) ≡ stack_column k r
but_order_parent r v zero h = refl
but_order_parent r v (suc zero) h = refl
but_order_parent r v (suc (suc zero)) h = refl
but_order_parent r v (suc (suc (suc zero))) h = refl
but_order_parent r v (suc (suc (suc (suc zero)))) h = refl
but_order_parent r v (suc (suc (suc (suc (suc zero))))) h = cc
but_order_parent r v (suc (suc (suc (suc (suc (suc k)))))) h = refl

pub kept_order_parent : (t : List Stack) (x : ℕ) (v : ℕ) (z : Stack) → SameStacks (5 ∷ []) t (set t x (record (get_or t x z) { order_parent = v }))
kept_order_parent t x v z = keep_row t x (record (get_or t x z) { order_parent = v }) z (but_order_parent (get_or t x z) v)

but_touched : (r : Link) (v : ℕ) (k : ℕ) → among k (0 ∷ []) ≡ false → link_column k (record r { touched = v }) ≡ link_column k r
but_touched r v zero h = cc
but_touched r v (suc zero) h = refl
but_touched r v (suc (suc zero)) h = refl
but_touched r v (suc (suc (suc zero))) h = refl
but_touched r v (suc (suc (suc (suc k)))) h = refl

pub kept_touched : (t : List Link) (x : ℕ) (v : ℕ) (z : Link) → SameLinks (0 ∷ []) t (set t x (record (get_or t x z) { touched = v }))
kept_touched t x v z = keep_row t x (record (get_or t x z) { touched = v }) z (but_touched (get_or t x z) v)

but_count : (r : Link) (v : ℕ) (k : ℕ) → among k (1 ∷ []) ≡ false → link_column k (record r { count = v }) ≡ link_column k r
but_count r v zero h = refl
but_count r v (suc zero) h = cc
but_count r v (suc (suc zero)) h = refl
but_count r v (suc (suc (suc zero))) h = refl
but_count r v (suc (suc (suc (suc k)))) h = refl

pub kept_count : (t : List Link) (x : ℕ) (v : ℕ) (z : Link) → SameLinks (1 ∷ []) t (set t x (record (get_or t x z) { count = v }))
kept_count t x v z = keep_row t x (record (get_or t x z) { count = v }) z (but_count (get_or t x z) v)

but_fresh : (r : Link) (v : ℕ) (k : ℕ) → among k (2 ∷ []) ≡ false → link_column k (record r { fresh = v }) ≡ link_column k r
but_fresh r v zero h = refl
but_fresh r v (suc zero) h = refl
but_fresh r v (suc (suc zero)) h = cc
but_fresh r v (suc (suc (suc zero))) h = refl
but_fresh r v (suc (suc (suc (suc k)))) h = refl

pub kept_fresh : (t : List Link) (x : ℕ) (v : ℕ) (z : Link) → SameLinks (2 ∷ []) t (set t x (record (get_or t x z) { fresh = v }))
kept_fresh t x v z = keep_row t x (record (get_or t x z) { fresh = v }) z (but_fresh (get_or t x z) v)

-- ---- a field read, from its column

-- the row that a read past the table gives
abbrev pub no_node : Node
no_node = record { parent = 0; exit = 0 }

pub read_parent : (t : List Node) (x : ℕ) → get_or (parents t) x 0 ≡ (get_or t x no_node).parent
read_parent t x = get_or-map (λ r. r.parent) t x no_node

pub read_exit : (t : List Node) (x : ℕ) → get_or (exits t) x 0 ≡ (get_or t x no_node).exit
read_exit t x = get_or-map (λ r. r.exit) t x no_node

-- the row that a read past the table gives
abbrev pub no_flags : Flags
no_flags = record { lit = false; known = false; odd = false; hot = false; free = false; unused = [] }

pub read_lit : (t : List Flags) (x : ℕ) → get_or (lits t) x false ≡ (get_or t x no_flags).lit
read_lit t x = get_or-map (λ r. r.lit) t x no_flags

pub read_known : (t : List Flags) (x : ℕ) → get_or (knowns t) x false ≡ (get_or t x no_flags).known
read_known t x = get_or-map (λ r. r.known) t x no_flags

pub read_odd : (t : List Flags) (x : ℕ) → get_or (odds t) x false ≡ (get_or t x no_flags).odd
read_odd t x = get_or-map (λ r. r.odd) t x no_flags

pub read_hot : (t : List Flags) (x : ℕ) → get_or (hots t) x false ≡ (get_or t x no_flags).hot
read_hot t x = get_or-map (λ r. r.hot) t x no_flags

pub read_free : (t : List Flags) (x : ℕ) → get_or (frees t) x false ≡ (get_or t x no_flags).free
read_free t x = get_or-map (λ r. r.free) t x no_flags

-- the row that a read past the table gives
abbrev pub no_stack : Stack
no_stack = record { defect = 0; seen = 0; active = 0; front = 0; order_edge = 0; order_parent = 0 }

pub read_defect : (t : List Stack) (x : ℕ) → get_or (defects t) x 0 ≡ (get_or t x no_stack).defect
read_defect t x = get_or-map (λ r. r.defect) t x no_stack

pub read_seen : (t : List Stack) (x : ℕ) → get_or (seen t) x 0 ≡ (get_or t x no_stack).seen
read_seen t x = get_or-map (λ r. r.seen) t x no_stack

pub read_active : (t : List Stack) (x : ℕ) → get_or (active t) x 0 ≡ (get_or t x no_stack).active
read_active t x = get_or-map (λ r. r.active) t x no_stack

pub read_front : (t : List Stack) (x : ℕ) → get_or (front t) x 0 ≡ (get_or t x no_stack).front
read_front t x = get_or-map (λ r. r.front) t x no_stack

pub read_order_edge : (t : List Stack) (x : ℕ) → get_or (order_edge t) x 0 ≡ (get_or t x no_stack).order_edge
read_order_edge t x = get_or-map (λ r. r.order_edge) t x no_stack

pub read_order_parent : (t : List Stack) (x : ℕ) → get_or (order_parent t) x 0 ≡ (get_or t x no_stack).order_parent
read_order_parent t x = get_or-map (λ r. r.order_parent) t x no_stack

-- the row that a read past the table gives
abbrev pub no_link : Link
no_link = record { touched = 0; count = 0; fresh = 0; unused = 0 }

pub read_touched : (t : List Link) (x : ℕ) → get_or (touched t) x 0 ≡ (get_or t x no_link).touched
read_touched t x = get_or-map (λ r. r.touched) t x no_link

pub read_count : (t : List Link) (x : ℕ) → get_or (cnt t) x 0 ≡ (get_or t x no_link).count
read_count t x = get_or-map (λ r. r.count) t x no_link

pub read_fresh : (t : List Link) (x : ℕ) → get_or (fresh t) x 0 ≡ (get_or t x no_link).fresh
read_fresh t x = get_or-map (λ r. r.fresh) t x no_link
