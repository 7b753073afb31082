-- What the rounding of each kind did to the numbers of a sheet. Assumes nothing.
use mathlib.Core.Path.{◌≡◌, refl, sym, ap, ◌∙◌, subst}
use mathlib.Core.Bool.{Bool, true, false, ◌||◌, false≢true}
use mathlib.Core.List.{List}
use Prim.Native.Nat.{ℕ}
use lib.Dec.{eqb}
use borrow.Author.Tests.{eqb-true}
use Rattle.double.specs.Double.{rounded, rule_of}
use Rattle.double.specs.Nearest.{IsRoundedCount}
use Rattle.double.specs.declared.Rounding.{Rounding}
use Rattle.double.specs.declared.Rounding.TheVariants.{Down, Up, Nearest}
use Rattle.double.proofs.Rules.{rounded_count}
use Rattle.image.specs.Layout.{sizes_of}
use Rattle.frame.specs.Frame.{due_at, is_input_limit, is_table_entry, rounding_of}
use Rattle.sheet.specs.Laws.{double_at, KindsRounded, LoweredHighs, NearestTables, RaisedNumbers}
use Rattle.sheet.specs.Sheet.{sheet_image, sheet_number}
use Rattle.sheet.proofs.Entries.{words_rounded}

raised : (kind : ℕ) → eqb kind 4 || eqb kind 6 || is_input_limit kind ≡ true → rounding_of kind ≡ Up
raised kind = by (eqb kind 4) refl (eqb kind 6) refl (eqb kind 7) refl (eqb kind 9) refl
  where
    by : (a : Bool) → eqb kind 4 ≡ a → (b : Bool) → eqb kind 6 ≡ b → (c : Bool) → eqb kind 7 ≡ c → (d : Bool) → eqb kind 9 ≡ d → a || b || (c || d) ≡ true → rounding_of kind ≡ Up
    by true e b f c g d h t = rw (eqb-true kind 4 e)
    by false e true f c g d h t = rw (eqb-true kind 6 f)
    by false e false f true g d h t = rw (eqb-true kind 7 g)
    by false e false f false g true h t = rw (eqb-true kind 9 h)
    by false e false f false g false h t = absurd (false≢true t)

module _ (s : List ℕ) (e : sheet_number s ≡ 0) where
  kinds_rounded : (kinds : ℕ → Bool) (how : Rounding) → ((kind : ℕ) → kinds kind ≡ true → rounding_of kind ≡ how) → KindsRounded kinds how (sizes_of (sheet_image s)) s
  kinds_rounded kinds how f i h t =
      let z = sizes_of (sheet_image s) in
      let r = words_rounded s e i h in
      let n : rounding_of (due_at z i).kind ≡ how = f (due_at z i).kind (subst (λ (k : ℕ). kinds k ≡ true) r.kind t) in
      subst (IsRoundedCount how z.b (double_at s i)) (sym (r.word ∙ ap (λ (u : Rounding). rounded (rule_of u) z.b (double_at s i)) n)) (rounded_count how z.b (double_at s i) r.scales)

  pub tables_nearest : NearestTables (sizes_of (sheet_image s)) s
  tables_nearest = kinds_rounded is_table_entry Nearest (λ kind t. rw t)

  pub numbers_raised : RaisedNumbers (sizes_of (sheet_image s)) s
  numbers_raised = kinds_rounded _ Up raised

  pub highs_lowered : LoweredHighs (sizes_of (sheet_image s)) s
  highs_lowered = kinds_rounded _ Down (λ kind t. rw (eqb-true kind 5 t))
