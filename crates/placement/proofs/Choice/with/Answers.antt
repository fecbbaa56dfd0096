-- `placement::Choice::with` meets its contract: edge b is left where it costs more, or as much and is not the end.
use Rattle.std.proofs.Common.{◌≡◌, ℕ, ◌+◌, ◌%◌, ◌^◌, ◌<◌, ◌≤◌, List, get_or, refl, ap, ◌∙◌, inl, inr, ⊎_elim, le_trans, le_refl, eq-or-lt_of_le, arith}
use Rattle.placement.specs.Rows.{Tries}
use Rattle.placement.specs.declared.Choice.{Choice}
use Rattle.placement.proofs.Choice.with.Goals as goal
use Rattle.placement.proofs.Choice.with.Goals.{then-most-cost-via-then-most-cost, then-most-cost-via-else-most-cost+then-b-n}

module _ {costs tallies : List ℕ} {n b x y : ℕ} {c : Choice} (within : b ≤ n) (below : x < 2 ^ 56) where
  left : c.cost ≤ x + get_or costs b 0 → (n ≤ b → c.cost < x + get_or costs b 0) → Tries costs tallies n b x y c c
  left le end =
      record {
        next-is = inl refl;
        tried =
            λ fit cost tally a h f ex ey t.
            record {
              above = t.above;
              within = t.within;
              most = t.most;
              small = λ k lo hi g. ⊎_elim (λ (e : k ≡ b). rw (e, ← ex) below) (λ lt. t.small k lo (omega arith) g) (eq-or-lt_of_le hi);
              fits = t.fits;
              attained = t.attained;
              tallied = t.tallied;
              least = λ k lo hi g. ⊎_elim (λ (e : k ≡ b). rw (e, ← ex) le) (λ lt. t.least k lo (omega arith) g) (eq-or-lt_of_le hi);
              not_end = λ lt le' g. let e : n ≡ b = omega arith in rw (e, ← ex) (end le');
              lowest = t.lowest;
            };
      }

  taken : {sum : ℕ} → x + get_or costs b 0 ≤ c.cost → (b < n → x + get_or costs b 0 < c.cost) → sum ≡ (y + get_or tallies b 0) % 2 ^ 64
      → Tries costs tallies n b x y c (record { cost = x + get_or costs b 0; next = b; tally = sum })
  taken le less tallied =
      record {
        next-is = inr refl;
        tried =
            λ fit cost tally a h f ex ey t.
            record {
              above = h;
              within = within;
              most = le_trans le t.most;
              small = λ k lo hi g. ⊎_elim (λ (e : k ≡ b). rw (e, ← ex) below) (λ lt. t.small k lo (omega arith) g) (eq-or-lt_of_le hi);
              fits = λ _. f;
              attained = λ _. ap (λ (v : ℕ). v + get_or costs b 0) ex;
              tallied = λ _. tallied ∙ ap (λ (v : ℕ). (v + get_or tallies b 0) % 2 ^ 64) ey;
              least =
                  λ k lo hi g.
                  ⊎_elim (λ (e : k ≡ b). rw (e, ← ex) (le_refl _)) (λ lt. le_trans le (t.least k lo (omega arith) g)) (eq-or-lt_of_le hi);
              not_end = λ lt le' g. absurd (omega arith);
              lowest = λ k lo hi lt g. le_trans (less lt) (t.least k lo (omega arith) g);
            };
      }

pub returns-then-self-rest : goal.returns-then-self-rest
returns-then-self-rest c = left c.requires.0 c.requires.2 (omega arith) (λ le. omega arith)

pub returns-then-most-cost : goal.returns-then-most-cost
returns-then-most-cost c =
    left c.requires.0 c.requires.2
    (elim c.then-most-cost.branch [ then-most-cost-via-then-most-cost w ↦ omega arith | then-most-cost-via-else-most-cost+then-b-n w ↦ omega arith ])
    (λ le. elim c.then-most-cost.branch [ then-most-cost-via-then-most-cost w ↦ omega arith | then-most-cost-via-else-most-cost+then-b-n w ↦ omega arith ])

pub returns : goal.returns
returns c =
    taken c.requires.0 c.requires.2 (omega arith)
    (λ lt. ⊎_elim (λ e. omega arith) (λ e. omega arith) c.if-b-n.either)
    c.wrapping_add_u64.ensures.value
