-- The bytes of a model, judged number by number: "1, 2, then range, low and high when high is read; then 6".
-- As in 01, n is the number of clocks, m the ceiling; l and e are the numbers of locations and edges, or the number of one of them.
use Rattle.std.specs.Prelude.{ℕ, ◌+◌, ◌*◌, ◌-◌, ◌^◌, List, cond, Result, Ok, Err, ◌&&◌, length, set, replicate, ltb, leb, eqb}
use Rattle.number.specs.Number.{Number, read_number}
use Rattle.model.specs.declared.Model.{Model}
use Rattle.model.specs.declared.Plan.{Plan}
use Rattle.limits.specs.declared.refusal.Refusal.{Refusal}
use Rattle.limits.specs.Refusal.{code_of}
use Rattle.limits.specs.Limits.{max_clocks, max_ceiling, max_locations, max_edges, newest_mark}
use Rattle.model.specs.Each.{each}
use Rattle.model.specs.Model.{slot, with_arrays, with_invariant}
use Rattle.stay_fields.specs.Resolve.{resolved}
use Rattle.number.specs.Number as number

-- what reading a model gives: 0, its mark and the model; or the refusal, no mark and a blank model
pub record Reading : Type 0 where
  pub refusal : ℕ
  pub mark : ℕ
  pub model : Model

-- a number within its range and the position after it, or its refusal
pub data Field : Type 0 where
  Value : ℕ → ℕ → Field
  Refused : ℕ → Field

-- how far the reading is: nothing more is read once the refusal is not 0
pub record State : Type 0 where
  pub refusal : ℕ
  pub at : ℕ
  pub model : Model

-- ---- one number

-- a number from low to high, or the refusal of its range; 1 and 2 come first
abbrev pub within : ℕ → ℕ → ℕ → Number → Field
within low high refusal (number.Value v p) = cond (leb low v && leb v high) (Value v p) (Refused refusal)
within low high refusal (number.Refused r) = Refused r

unfoldable pub field_at : List ℕ → ℕ → ℕ → ℕ → ℕ → Field
field_at bs at low high refusal = within low high refusal (read_number bs at)

-- the refusal of a field, 0 where there is a value
abbrev pub field_refusal : Field → ℕ
field_refusal (Value v p) = 0
field_refusal (Refused r) = r

-- go on with a field's value and the next position, or stop with its refusal
abbrev pub on_field : {A : Type 0} → Field → (ℕ → A) → (ℕ → ℕ → A) → A
on_field (Value v p) stop go = go v p
on_field (Refused r) stop go = stop r

-- ---- the model so far

-- a model with these five numbers and all else 0
abbrev pub blank : ℕ → ℕ → ℕ → ℕ → ℕ → Model
blank n m l e s =
    record {
      clocks = n;
      ceiling = m;
      locations = l;
      edges = e;
      start = s;
      kind = replicate max_locations 0;
      invariant = replicate (max_clocks * max_locations) 0;
      source = replicate max_edges 0;
      target = replicate max_edges 0;
      reset = replicate max_edges 0;
      lower = replicate (max_clocks * max_edges) 0;
      upper = replicate (max_clocks * max_edges) 0;
    }

abbrev pub with_kind : Model → ℕ → ℕ → Model
with_kind m l v = with_arrays m (set m.kind l v) m.invariant m.source m.target m.reset m.lower m.upper

abbrev pub with_ends : Model → ℕ → ℕ → ℕ → ℕ → Model
with_ends m e f t r =
    with_arrays m m.kind m.invariant (set m.source e f) (set m.target e t) (set m.reset e r) m.lower m.upper

abbrev pub with_guard : Model → ℕ → ℕ → ℕ → Model
with_guard m i v w =
    with_arrays m m.kind m.invariant m.source m.target m.reset (set m.lower i v) (set m.upper i w)

-- how far the reading is: at a position, or stopped with a refusal
abbrev pub going : ℕ → Model → State
going p m = record { refusal = 0; at = p; model = m }

abbrev pub stopped : State → ℕ → State
stopped s r = record { refusal = r; at = s.at; model = s.model }

-- nothing more is read once a number is refused
abbrev pub unless_stopped : State → State → State
unless_stopped s t = cond (eqb s.refusal 0) t s

-- ---- locations: refusal 4

-- "Per location: kind (0 ordinary, 1 forbidden)"
unfoldable pub kind_at : List ℕ → ℕ → State → State
kind_at bs l s =
    unless_stopped s
    (on_field (field_at bs s.at 0 1 4) (stopped s) (λ v p.
    going p (with_kind s.model l v)))

-- "then n stay fields, 0..M+1"; they are kept as spelt until all is read
unfoldable pub invariant_at : List ℕ → ℕ → ℕ → ℕ → State → State
invariant_at bs M l x s =
    unless_stopped s
    (on_field (field_at bs s.at 0 (M + 1) 4) (stopped s) (λ v p.
    going p (with_invariant s.model (slot l x) v)))

abbrev pub parse_location : List ℕ → ℕ → ℕ → ℕ → State → State
parse_location bs n M l s = each n (invariant_at bs M l) (kind_at bs l s)

-- ---- edges: refusal 5

-- "Per edge: from, to, each 0..L-1; reset mask, 0..2^n-1"
unfoldable pub ends_at : List ℕ → ℕ → ℕ → ℕ → State → State
ends_at bs n l e s =
    unless_stopped s
    (on_field (field_at bs s.at 0 (l - 1) 5) (stopped s) (λ f p.
    on_field (field_at bs p 0 (l - 1) 5) (stopped s) (λ t q.
    on_field (field_at bs q 0 (2 ^ n - 1) 5) (stopped s) (λ r o.
    going o (with_ends s.model e f t r)))))

-- "per clock low and high, 0..M, low at most high"
unfoldable pub guard_at : List ℕ → ℕ → ℕ → ℕ → State → State
guard_at bs M e x s =
    unless_stopped s
    (on_field (field_at bs s.at 0 M 5) (stopped s) (λ v p.
    on_field (field_at bs p v M 5) (stopped s) (λ w q.
    going q (with_guard s.model (slot e x) v w))))

abbrev pub parse_edge : List ℕ → ℕ → ℕ → ℕ → ℕ → State → State
parse_edge bs n M l e s = each n (guard_at bs M e) (ends_at bs n l e s)

-- ---- the whole

-- a refused model is blank and has no mark
abbrev pub refused : ℕ → Reading
refused r = record { refusal = r; mark = 0; model = blank 0 0 0 0 0 }

-- a plan as a reading
abbrev pub reading_of : Plan → Reading
reading_of p = record { refusal = 0; mark = p.mark; model = p.model }

-- a plan or a refusal
abbrev pub numbered : Result Plan Refusal → Reading
numbered (Ok p) = reading_of p
numbered (Err r) = refused (code_of r)

-- "Nothing may follow": 6, "bytes remain at the end"
abbrev pub finish : List ℕ → ℕ → State → Reading
finish bs mark s =
    cond (eqb s.refusal 0)
    (cond (ltb s.at (length bs)) (refused 6) (record { refusal = 0; mark = mark; model = resolved mark s.model }))
    (refused s.refusal)

-- the locations, the edges, and nothing after them
unfoldable pub parse_body : List ℕ → ℕ → ℕ → ℕ → ℕ → ℕ → ℕ → ℕ → Reading
parse_body bs p mark n M l e s = finish bs mark (each e (parse_edge bs n M l) (each l (parse_location bs n M) (going p (blank n M l e s))))

-- "locations L, 1..8; edges E, 0..24; start location, 0..L-1": refusal 3
unfoldable pub parse_counts : List ℕ → ℕ → ℕ → ℕ → ℕ → Reading
parse_counts bs p mark n M =
    on_field (field_at bs p 1 max_locations 3) refused (λ l q.
    on_field (field_at bs q 0 max_edges 3) refused (λ e o.
    on_field (field_at bs o 0 (l - 1) 3) refused (λ s t.
    parse_body bs t mark n M l e s)))

-- "In order: mark (1); clocks n, 1..3; ceiling M, 1..4; .."; 02: "models with mark 2"
unfoldable pub parse_model : List ℕ → Reading
parse_model bs =
    on_field (field_at bs 0 1 newest_mark 3) refused (λ mark p.
    on_field (field_at bs p 1 max_clocks 3) refused (λ n q.
    on_field (field_at bs q 1 max_ceiling 3) refused (λ M o.
    parse_counts bs o mark n M)))
