-- Worked examples of document 01 and of its edges, by computation: b is 4 and W 8, so that a count is 0.0625 and top is 127. Assumes nothing.
use Rattle.std.specs.Prelude.{◌≡◌, ℕ, false, [], ◌∷◌, map, pos, negsuc, refl, Some, None, Ok, Err}
use Rattle.std.specs.Float.{binary64, fin}
use Rattle.std.specs.Float.Ieee.{of_bits, round}
use Rattle.integer.specs.Round.{floor}
use Rattle.double.specs.Double.{round_down, round_up, round_nearest, accepted, convert, convert_limits, double_value, double_answer}
use Rattle.refusal.specs.declared.Refusal.TheVariants.{Size, Word}

-- "Double 0.03125 as low limit is 1, as high limit 0"
limits : convert_limits 4 8 (record { low = of_bits binary64 0x3fa0_0000_0000_0000; high = of_bits binary64 0x3fa0_0000_0000_0000 }) ≡ Some (pos 1, pos 0)
unfolding accepted of_bits floor
limits = refl

-- −0.5 counts as a high limit are −1; minus zero; a NaN, an infinity, and the largest double, which overflows
down : map (λ (n : ℕ). convert round_down 4 8 (of_bits binary64 n)) (0xbfa0_0000_0000_0000 ∷ 0x8000_0000_0000_0000 ∷ 0x7ff8_0000_0000_0000 ∷ 0x7ff0_0000_0000_0000 ∷ 0x7fef_ffff_ffff_ffff ∷ [])
    ≡ Some (negsuc 0) ∷ Some (pos 0) ∷ None ∷ None ∷ None ∷ []
unfolding accepted of_bits floor
down = refl

-- −0.5 counts as a state limit are 0; −127.5 counts are −127, the least word; −128 counts are outside
up : map (λ (n : ℕ). convert round_up 4 8 (of_bits binary64 n)) (0xbfa0_0000_0000_0000 ∷ 0xc01f_e000_0000_0000 ∷ 0xc020_0000_0000_0000 ∷ []) ≡ Some (pos 0) ∷ Some (negsuc 126) ∷ None ∷ []
unfolding accepted of_bits floor
up = refl

-- request 7: "−0.03125 at b 4 becomes 0, 0.09375 becomes 2"; −1.5, 2.5 and −2.5 counts, and 2.5 with one bit more; the double next below zero
nearest : map (λ (n : ℕ). convert round_nearest 4 8 (of_bits binary64 n)) (0xbfa0_0000_0000_0000 ∷ 0x3fb8_0000_0000_0000 ∷ 0xbfb8_0000_0000_0000 ∷ 0x3fc4_0000_0000_0000 ∷ 0xbfc4_0000_0000_0000 ∷ 0x3fc4_0000_0000_0001 ∷ 0x8000_0000_0000_0001 ∷ [])
    ≡ Some (pos 0) ∷ Some (pos 2) ∷ Some (negsuc 1) ∷ Some (pos 2) ∷ Some (negsuc 1) ∷ Some (pos 3) ∷ Some (pos 0) ∷ []
unfolding accepted of_bits
nearest = refl

-- "and only then tested for 5": 127.25 counts are 127, and so are 127.5 with one bit less; 127.5 are a tie that goes to 128, which is outside
nearest_edge : map (λ (n : ℕ). convert round_nearest 4 8 (of_bits binary64 n)) (0x401f_d000_0000_0000 ∷ 0x401f_dfff_ffff_ffff ∷ 0x401f_e000_0000_0000 ∷ [])
    ≡ Some (pos 127) ∷ Some (pos 127) ∷ None ∷ []
unfolding accepted of_bits
nearest_edge = refl

-- the same below zero
nearest_edge_below : map (λ (n : ℕ). convert round_nearest 4 8 (of_bits binary64 n)) (0xc01f_d000_0000_0000 ∷ 0xc01f_dfff_ffff_ffff ∷ 0xc01f_e000_0000_0000 ∷ [])
    ≡ Some (negsuc 126) ∷ Some (negsuc 126) ∷ None ∷ []
unfolding accepted of_bits
nearest_edge_below = refl

-- −18 counts are −1.125; 128 counts are outside the word, and 7 bits are no width: plus zero goes with either refusal
back : double_answer 4 8 (negsuc 17) ≡ Ok (of_bits binary64 0xbff2_0000_0000_0000)
unfolding of_bits round
back = refl

back_outside : (double_answer 4 8 (pos 128) ≡ Err Word) × (double_value 4 8 (pos 128) ≡ fin false 0 (pos 0))
unfolding round
back_outside = (refl, refl)

back_width : (double_answer 4 7 (pos 128) ≡ Err Size) × (double_value 4 7 (pos 128) ≡ fin false 0 (pos 0))
unfolding round
back_width = (refl, refl)
