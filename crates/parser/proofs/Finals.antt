-- The model of a draft: its limits stand for its stay fields; it is lawful, and places that it does not use hold 0.
use Prim.Native.Nat.{ℕ, ◌+◌, ◌*◌, ◌^◌, ◌≤◌, ◌<◌}
use native.Mathlib.Omega.{arith}
use mathlib.Core.Path.{◌≡◌, ap, ◌∙◌}
use lib.ListN.{length, get_or, replicate}
use lib.Dec.{eqb}
use lib.Pow.{pow_pos}
use borrow.Author.Tests.{eqb-false}
use Rattle.number.proofs.Laws.{cond_ind}
use Rattle.model.specs.declared.Model.{Model}
use Rattle.limits.specs.Limits.{max_clocks, max_locations, max_edges}
use Rattle.stay_limits.specs.Stay.{resolve}
use Rattle.stay_limits.proofs.Exits.{exit_most}
use Rattle.model.specs.Model.{slot, source_of, high_at, Lawful, Tidy, with_arrays}
use Rattle.stay_fields.specs.Resolve.{default_at, limit_of, meant_at, resolved}
use Rattle.limits.proofs.Zeros.{zeros}
use Rattle.parser.proofs.Arrays.{row_length, row_in, row_out, row_at, grid, grid-length, grid_in, grid_out, grid_at}
use Rattle.parser.proofs.Drafts.{Draft, InRange, blank_of, drawn, put_limits}

-- a limit is at most the ceiling, and so is what a blank stands for
resolve_most : (m v : ℕ) → v ≤ m + 1 → resolve m v ≤ m
resolve_most m v h = cond_ind (λ (k : ℕ). k ≤ m) (eqb v 0) (λ q. omega arith) (λ q. omega (arith, eqb-false v 0 q))

pub default_most : (mark : ℕ) (m : Model) (l x : ℕ) → ((e : ℕ) → high_at m e x ≤ m.ceiling) → default_at mark m l x ≤ m.ceiling
default_most mark m l x h =
    cond_ind (λ (k : ℕ). k ≤ m.ceiling) (eqb mark 1) (λ q. omega arith)
    (λ q. resolve_most m.ceiling _ (exit_most (source_of m) (λ e. high_at m e x) l m.ceiling m.edges (λ e _. h e)))

limit_most : (mark : ℕ) (m : Model) (l x v : ℕ) → ((e : ℕ) → high_at m e x ≤ m.ceiling) → v ≤ m.ceiling + 1 → limit_of mark m l x v ≤ m.ceiling
limit_most mark m l x v h k =
    cond_ind (λ (b : ℕ). b ≤ m.ceiling) (eqb v 0) (λ q. default_most mark m l x h) (λ q. omega (arith, eqb-false v 0 q))

abbrev pub final : Draft → Model
final d =
    with_arrays (blank_of d) (drawn d).kind
    (grid d.locations d.clocks (meant_at d.mark (drawn d)) (drawn d).invariant)
    (drawn d).source (drawn d).target (drawn d).reset (drawn d).lower (drawn d).upper

pub resolved_draft : (d : Draft) → resolved d.mark (drawn d) ≡ final d
unfolding resolved
resolved_draft d = put_limits (blank_of d) d.clocks d.locations (meant_at d.mark (drawn d)) _ _ _ _ _ _ _

module _ (d : Draft) (g : InRange d) where
  few : d.clocks ≤ max_clocks
  few = g.clocks.1

  -- what stands at the places that are used
  pub final-kind : (l : ℕ) → l < d.locations → get_or (final d).kind l 0 ≡ (d.place l).0
  final-kind l h = row_in (λ i. (d.place i).0) _ d.locations l h g.locations.1

  drawn_field : (l x : ℕ) → l < d.locations → x < d.clocks → get_or (drawn d).invariant (slot l x) 0 ≡ (d.place l).1 x
  drawn_field l x h k = grid_in d.clocks few (λ i y. (d.place i).1 y) _ d.locations l x h k (omega (arith, g.locations.1))

  limits_length : length (final d).invariant ≡ max_clocks * max_locations
  limits_length =
      grid-length d.clocks few (meant_at d.mark (drawn d)) (drawn d).invariant d.locations
      ∙ grid-length d.clocks few (λ i y. (d.place i).1 y) (replicate (max_clocks * max_locations) 0) d.locations

  fields_length : length (drawn d).invariant ≡ max_clocks * max_locations
  fields_length = grid-length d.clocks few (λ i y. (d.place i).1 y) (replicate (max_clocks * max_locations) 0) d.locations

  pub final_limit : (l x : ℕ) → l < d.locations → x < d.clocks
      → get_or (final d).invariant (slot l x) 0 ≡ limit_of d.mark (final d) l x ((d.place l).1 x)
  final_limit l x h k =
      grid_in d.clocks few (meant_at d.mark (drawn d)) (drawn d).invariant d.locations l x h k (omega (arith, g.locations.1, fields_length))
      ∙ ap (limit_of d.mark (drawn d) l x) (drawn_field l x h k)

  module _ (e : ℕ) (h : e < d.edges) where
    pub final-source : get_or (final d).source e 0 ≡ (d.link e).0.source
    final-source = row_in (λ i. (d.link i).0.source) _ d.edges e h g.edges

    pub final-target : get_or (final d).target e 0 ≡ (d.link e).0.target
    final-target = row_in (λ i. (d.link i).0.target) _ d.edges e h g.edges

    pub final-reset : get_or (final d).reset e 0 ≡ (d.link e).0.reset
    final-reset = row_in (λ i. (d.link i).0.reset) _ d.edges e h g.edges

    pub final-low : (x : ℕ) → x < d.clocks → get_or (final d).lower (slot e x) 0 ≡ ((d.link e).1 x).low
    final-low x k = grid_in d.clocks few (λ i y. ((d.link i).1 y).low) _ d.edges e x h k (omega (arith, g.edges))

    pub final-high : (x : ℕ) → x < d.clocks → get_or (final d).upper (slot e x) 0 ≡ ((d.link e).1 x).high
    final-high x k = grid_in d.clocks few (λ i y. ((d.link i).1 y).high) _ d.edges e x h k (omega (arith, g.edges))

  -- ---- the other places

  pub final_tidy : Tidy (final d)
  final_tidy =
      record {
        kind = λ i h. row_out (λ j. (d.place j).0) _ d.locations i h ∙ zeros max_locations i;
        invariant = λ i x h o.
            grid_out d.clocks few (meant_at d.mark (drawn d)) (drawn d).invariant d.locations i x h o
            ∙ grid_out d.clocks few (λ j y. (d.place j).1 y) _ d.locations i x h o ∙ zeros (max_clocks * max_locations) (slot i x);
        source = λ i h. row_out (λ j. (d.link j).0.source) _ d.edges i h ∙ zeros max_edges i;
        target = λ i h. row_out (λ j. (d.link j).0.target) _ d.edges i h ∙ zeros max_edges i;
        reset = λ i h. row_out (λ j. (d.link j).0.reset) _ d.edges i h ∙ zeros max_edges i;
        lower = λ i x h o. grid_out d.clocks few (λ j y. ((d.link j).1 y).low) _ d.edges i x h o ∙ zeros (max_clocks * max_edges) (slot i x);
        upper = λ i x h o. grid_out d.clocks few (λ j y. ((d.link j).1 y).high) _ d.edges i x h o ∙ zeros (max_clocks * max_edges) (slot i x);
      }

  -- ---- all places

  some : 1 ≤ d.locations
  some = g.locations.0

  upper_range : (i : ℕ) → get_or (final d).upper i 0 < d.ceiling + 1
  upper_range =
      grid_at (λ (i : ℕ). get_or (final d).upper i 0 < d.ceiling + 1) d.edges d.clocks
      (λ i x h k. omega (arith, final-high i h x k, ((g.link i h).1 x k).1))
      (λ i x h o. omega (arith, final_tidy.upper i x h o))

  pub final_lawful : Lawful (final d)
  final_lawful =
      let t = final_tidy in
      record {
        clocks = g.clocks;
        ceiling = g.ceiling;
        locations = g.locations;
        edges = g.edges;
        start = omega (arith, g.start, some);
        sizes = record {
          kind = row_length (λ j. (d.place j).0) _ d.locations;
          invariant = limits_length;
          source = row_length (λ j. (d.link j).0.source) _ d.edges;
          target = row_length (λ j. (d.link j).0.target) _ d.edges;
          reset = row_length (λ j. (d.link j).0.reset) _ d.edges;
          lower = grid-length d.clocks few (λ j y. ((d.link j).1 y).low) _ d.edges;
          upper = grid-length d.clocks few (λ j y. ((d.link j).1 y).high) _ d.edges;
        };
        ranges = record {
          kind = row_at (λ (i : ℕ). get_or (final d).kind i 0 < 2) d.locations
              (λ i h. omega (arith, final-kind i h, (g.place i h).0)) (λ i h. omega (arith, t.kind i h));
          invariant = grid_at (λ (i : ℕ). get_or (final d).invariant i 0 < d.ceiling + 1) d.locations d.clocks
              (λ i x h k. omega (arith, final_limit i x h k, limit_most d.mark (final d) i x ((d.place i).1 x) (λ e. omega (arith, upper_range (slot e x))) ((g.place i h).1 x k)))
              (λ i x h o. omega (arith, t.invariant i x h o));
          source = row_at (λ (i : ℕ). get_or (final d).source i 0 < d.locations) d.edges
              (λ i h. omega (arith, final-source i h, (g.link i h).0.0, some)) (λ i h. omega (arith, t.source i h, some));
          target = row_at (λ (i : ℕ). get_or (final d).target i 0 < d.locations) d.edges
              (λ i h. omega (arith, final-target i h, (g.link i h).0.1, some)) (λ i h. omega (arith, t.target i h, some));
          reset = row_at (λ (i : ℕ). get_or (final d).reset i 0 < 2 ^ d.clocks) d.edges
              (λ i h. omega (arith, final-reset i h, (g.link i h).0.2, pow_pos d.clocks)) (λ i h. omega (arith, t.reset i h, pow_pos d.clocks));
          lower = grid_at (λ (i : ℕ). get_or (final d).lower i 0 ≤ get_or (final d).upper i 0) d.edges d.clocks
              (λ i x h k. omega (arith, final-low i h x k, final-high i h x k, ((g.link i h).1 x k).0))
              (λ i x h o. omega (arith, t.lower i x h o));
          upper = upper_range;
        };
      }
