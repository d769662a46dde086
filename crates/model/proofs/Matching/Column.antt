-- The visit of a column, from what the visit of its row leaves behind.
-- Assumes nothing.
use mathlib.Core.Bool.{Bool, true, false}
use mathlib.Core.Path.{◌≡◌, refl, sym, ◌∙◌, ap}
use mathlib.Core.Logic.{inl, inr, ⊎_elim}
use Prim.Native.Nat.{ℕ, suc, ◌<◌}
use native.Mathlib.Omega.{arith}
use Rattle.counting.proofs.Joined.{no_way, by_test, clash, fails}
use Rattle.model.specs.Pattern.{Pattern}
use Rattle.model.specs.Marking.{Marking}
use Rattle.model.specs.Matching.{Visited, visited, with_column, with_mate, conflict_columns, hand_over}
use Rattle.model.proofs.Matching.Mates.{Matching, joined}
use Rattle.model.proofs.Matching.Swap.{with_other, with_cases, leave_out, put_in, swap_last, swap_more, swap_same}
use Rattle.model.proofs.Matching.Same.{matching_same, with_swap}
use Rattle.model.proofs.Matching.Columns.{joined_passes}
use Rattle.model.proofs.Matching.Visits.{hand_found, hand_not, column_same, column_stays, column_only, column_apart}
use Rattle.model.proofs.Matching.Outcome.{Lost, Won, RowPost, ColumnPost, column_as, shut, shut_apart, shut-entered, shut_grows, lost_none}

-- a column that was entered before
pub column_before :
    (P : Pattern) (μ : Marking) (j i x : ℕ) (entered : ℕ → Bool) (mate : ℕ → ℕ) →
    entered j ≡ true → ColumnPost P μ j i entered mate (visited false x entered mate)
column_before P μ j i x entered mate e =
    record { lost = λ f. lost_none; here = λ f. e; won = λ f. clash f refl }

-- column j, which is not entered, is visited for row i, to which it is joined
module _
    (P : Pattern)
    (μ : Marking)
    (j i : ℕ)
    (entered : ℕ → Bool)
    (mate : ℕ → ℕ)
    (M : Matching P μ mate)
    (b : j < P.n)
    (join : joined P μ i j ≡ true)
    (unseen : entered j ≡ false)
  where
    -- it is unmatched
    free_won : mate j ≡ 0 → Won P μ i entered mate (with_mate mate j (suc i))
    free_won z =
        record {
          kept = λ c e. with_other mate j (suc i) c (column_apart entered j c e unseen);
          from = λ c q l e. ⊎_elim
              (λ w. inl (let x = w.1 in omega arith))
              (λ w. inr (inl w.1))
              (with_cases mate j (suc i) c (suc q) e);
          more = swap_more P mate i j b z;
          fits = λ k e only. matching_same
              P
              μ
              (with_mate (with_mate mate k 0) j (suc i))
              (with_mate (with_mate mate j (suc i)) k 0)
              (λ c l. with_swap mate k j 0 (suc i) c (shut_apart P entered k j e b unseen))
              (swap_last
              P
              μ
              (with_mate mate k 0)
              i
              j
              (leave_out P μ mate k M)
              join
              (λ c l d f. ⊎_elim
              (λ w. no_way (let x = w.1 in omega arith))
              (λ w. w.0 (only c l w.1))
              (with_cases mate k 0 c (suc i) f)));
        }

    pub column_free_post :
        (x : ℕ) → mate j ≡ 0 →
        ColumnPost P μ j i entered mate (visited true x (with_column entered j) (with_mate mate j (suc i)))
    column_free_post x z =
        record { lost = λ f. clash refl f; here = λ f. clash refl f; won = λ f. free_won z }

    -- it has row r, which went through its conflict columns once j was entered
    module _ (r : ℕ) (has : mate j ≡ suc r) (o : Visited) (post : RowPost P μ r (conflict_columns P μ r) (with_column entered j) mate o) where
      not-before : (c : ℕ) → with_column entered j c ≡ false → entered c ≡ false
      not-before c e = fails (entered c) (λ f. clash (column_stays entered j c f) e)

      -- row r found no column
      held_lost : o.found ≡ false → Lost P μ entered mate o.entered o.mate
      held_lost n =
          let l = post.lost n in
          record {
            same = l.same;
            grows = λ c e. l.grows c (column_stays entered j c e);
            new = λ c e f. by_test
                (with_column entered j c)
                (λ g. record {
                  row = r;
                  holds = ap mate (column_only entered j c e g) ∙ has;
                  onward = λ d y. joined_passes P μ o.entered r d (post.all n) y;
                })
                (λ g. l.new c g f);
          }

      -- row r found another column
      module _ (w : Won P μ r (with_column entered j) mate o.mate) where
        stays : (k : ℕ) → shut P entered k ≡ true → shut P (with_column entered j) k ≡ true
        stays k e = shut_grows P entered (with_column entered j) k (column_stays entered j) e

        -- no other column has row i
        alone :
            (k : ℕ) → shut P entered k ≡ true → ((c : ℕ) → c < P.n → mate c ≡ suc i → c ≡ k) →
            (c : ℕ) → c < P.n → (c ≡ j → ⊥) → with_mate o.mate k 0 c ≡ suc i → ⊥
        alone k e only c l d f =
            ⊎_elim
            (λ x. no_way (let y = x.1 in omega arith))
            (λ x. ⊎_elim
            (λ q. shut_apart P entered k j e b unseen (sym (only j b (has ∙ ap suc (sym q)))))
            (λ y. ⊎_elim
            (λ z. x.0 (only c l z))
            (λ z. shut_apart
            P
            (with_column entered j)
            k
            z.0
            (stays k e)
            z.1
            z.2
            (sym (only z.0 z.1 z.3)))
            y)
            (w.from c i l x.1))
            (with_cases o.mate k 0 c (suc i) f)

        held_won : Won P μ i entered mate (with_mate o.mate j (suc i))
        held_won =
            record {
              kept = λ c e. with_other o.mate j (suc i) c (column_apart entered j c e unseen)
                  ∙ w.kept c (column_stays entered j c e);
              from = λ c q l e. ⊎_elim
                  (λ x. inl (let y = x.1 in omega arith))
                  (λ x. ⊎_elim
                  (λ y. inr (inr (j, b, unseen, has ∙ ap suc (sym y))))
                  (λ y. ⊎_elim
                  (λ z. inr (inl z))
                  (λ z. inr (inr (z.0, z.1, not-before z.0 z.2, z.3)))
                  y)
                  (w.from c q l x.1))
                  (with_cases o.mate j (suc i) c (suc q) e);
              more = swap_same P o.mate i j r (w.kept j (column_same entered j) ∙ has) ∙ w.more;
              fits = λ k e only. matching_same
                  P
                  μ
                  (with_mate (with_mate o.mate k 0) j (suc i))
                  (with_mate (with_mate o.mate j (suc i)) k 0)
                  (λ c l. with_swap o.mate k j 0 (suc i) c (shut_apart P entered k j e b unseen))
                  (put_in
                  P
                  μ
                  (with_mate o.mate k 0)
                  i
                  j
                  (matching_same
                  P
                  μ
                  (with_mate (with_mate o.mate j 0) k 0)
                  (with_mate (with_mate o.mate k 0) j 0)
                  (λ c l. with_swap o.mate j k 0 0 c (λ q. shut_apart P entered k j e b unseen (sym q)))
                  (leave_out
                  P
                  μ
                  (with_mate o.mate j 0)
                  k
                  (w.fits
                  j
                  (shut-entered P (with_column entered j) j (column_same entered j))
                  (λ c l f. M.apart r c j l b f has))))
                  join
                  (alone k e only));
            }

      pub column_held_post : ColumnPost P μ j i entered mate (hand_over j i o)
      column_held_post =
          by_test
          o.found
          (λ y. column_as
          (hand_found j i o y)
          record { lost = λ f. clash refl f; here = λ f. clash refl f; won = λ f. held_won (post.won y) })
          (λ n. column_as
          (hand_not j i o n)
          record {
            lost = λ f. held_lost n;
            here = λ f. (post.lost n).grows j (column_same entered j);
            won = λ f. clash f refl;
          })
