-- The rounds of the code's search, over any need and any supply: what it knows when it comes to t, and what it stops at (`CountedRounds`).
use Prim.Native.Nat.{ℕ, ◌+◌, ◌<◌, ◌≤◌}
use native.Mathlib.Omega.{arith}
use mathlib.Core.Path.{◌≡◌, sym, ap, ◌∙◌}
use Rattle.std.specs.Prelude.{Some, None}
use Rattle.times.proofs.Search.{Searchable}
use Rattle.times.proofs.CountedRounds.{Searching, search_start, search_found, search_exceeded, search_missed, search_next}
use Rattle.admission.specs.Searches.{Met, Searched}

module _ {sup want first : ℕ → ℕ} where
  -- a need and a supply as the code asks of them are those of the laws, and the other way
  searchable : Met sup want first → Searchable sup want first
  searchable m = record { first_le = m.no_sooner; le_sup = m.from_then; le_first = m.no_faster; mono = m.rises; some = m.some }

  pub met : Searchable sup want first → Met sup want first
  met r = record { some = r.some; rises = r.mono; no_sooner = r.first_le; from_then = r.le_sup; no_faster = r.le_first }

  module _ (m : Met sup want first) {due : ℕ} where
    pub round_start : Searching sup want due 0 1
    round_start = search_start (searchable m)

    module _ {count t : ℕ} (s : Searching sup want due count t) where
      pub ends_past : due < t → Searched sup want due (record { found = None; rounds = count })
      ends_past h = let told = search_missed (searchable m) s h in record { found = sym told.0; counted = sym told.1 }

      -- a round, with the need in t
      module _ (h : t ≤ due) (n : ℕ) (need_is : n ≡ want t) where
        pub ends_above : due < n → Searched sup want due (record { found = None; rounds = count + 1 })
        ends_above l =
            let told = search_exceeded (searchable m) s h (omega (arith, need_is)) in
            record { found = sym told.0; counted = sym told.1 }

        module _ (next : ℕ) (next_is : next ≡ first n) where
          goes_to : next ≡ first (want t)
          goes_to = next_is ∙ ap first need_is

          pub ends_at : (taken : ℕ) → taken ≡ count + 1 → next ≤ t → Searched sup want due (record { found = Some t; rounds = taken })
          ends_at taken e l =
              let told = search_found (searchable m) s h (omega (arith, goes_to)) in
              record { found = sym told.0; counted = e ∙ sym told.1 }

          pub goes_on : t < next → Searching sup want due (count + 1) next
          goes_on l = rw goes_to (search_next (searchable m) s h (omega (arith, goes_to)))
