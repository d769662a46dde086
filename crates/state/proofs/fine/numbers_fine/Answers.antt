-- `state::fine::numbers_fine` meets its contract.
-- Assumes nothing.
use mathlib.Core.Path.{sym, ◌∙◌}
use native.Mathlib.Omega.{arith}
use borrow.Author.Tests.{eq-eqb, ne_eqb, le-leb, lt-leb}
use Rattle.counting.specs.Tests.{◌and◌}
use Rattle.model.specs.declared.Part.TheVariants.{Zero, One}
use Rattle.model.proofs.Theorems.Accepted.{caps_ranged}
use Rattle.state.specs.StateBy.{numbers_by}
use Rattle.state.proofs.fine.numbers_fine.Goals as goal
use Rattle.state.proofs.fine.numbers_fine.Goals.{then-search-m-via-then-search-m, then-search-m-via-else-search-m+then-search-n, then-search-m-via-else-search-m+else-search-n+then-search-nonzeros, then-search-m-via-else-search-m+else-search-n+else-search-nonzeros+then-caps_outside}

pub returns-then-search-m : goal.returns-then-search-m
unfolding numbers_by ◌and◌
returns-then-search-m c =
    rw (← c.from-m.ensures, ← c.from-n.ensures, ← c.from-nonzeros.ensures) (elim c.then-search-m.branch [
      | then-search-m-via-then-search-m w ↦ simp (ne_eqb _ _ w.if-search-m.true)
      | then-search-m-via-else-search-m+then-search-n w ↦ simp (eq-eqb _ _ w.if-search-m.false, ne_eqb _ _ w.if-search-n.true)
      | then-search-m-via-else-search-m+else-search-n+then-search-nonzeros w ↦
          simp (eq-eqb _ _ w.if-search-m.false, eq-eqb _ _ w.if-search-n.false, ne_eqb _ _ w.if-search-nonzeros.true)
      | then-search-m-via-else-search-m+else-search-n+else-search-nonzeros+then-caps_outside w ↦
          simp (
            eq-eqb _ _ w.if-search-m.false,
            eq-eqb _ _ w.if-search-n.false,
            eq-eqb _ _ w.if-search-nonzeros.false,
            sym w.caps_outside.ensures ∙ w.if-caps_outside.true,
          )
    ])

pub overflow_add-caps : goal.overflow_add-caps
overflow_add-caps c =
    let small = sym c.caps_outside.ensures ∙ c.if-caps_outside.false in
    record { fits = omega (arith, caps_ranged _ small Zero, caps_ranged _ small One) }

pub returns-then-nonzeros-caps : goal.returns-then-nonzeros-caps
unfolding numbers_by ◌and◌
returns-then-nonzeros-caps c =
    rw (← c.from-m.ensures, ← c.from-n.ensures, ← c.from-nonzeros.ensures) (simp (
      eq-eqb _ _ c.if-search-m.false,
      eq-eqb _ _ c.if-search-n.false,
      eq-eqb _ _ c.if-search-nonzeros.false,
      sym c.caps_outside.ensures ∙ c.if-caps_outside.false,
      le-leb _ _ c.if-nonzeros-caps.true,
      c.counts_fine.ensures,
    ))

pub returns-else-nonzeros-caps : goal.returns-else-nonzeros-caps
unfolding numbers_by ◌and◌
returns-else-nonzeros-caps c =
    rw (← c.from-m.ensures, ← c.from-n.ensures, ← c.from-nonzeros.ensures) (simp (
      eq-eqb _ _ c.if-search-m.false,
      eq-eqb _ _ c.if-search-n.false,
      eq-eqb _ _ c.if-search-nonzeros.false,
      sym c.caps_outside.ensures ∙ c.if-caps_outside.false,
      lt-leb _ _ c.if-nonzeros-caps.false,
    ))
