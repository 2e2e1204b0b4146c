-- Worked marks, computed from the definitions: answers at and beside an edge, the least and the largest floats, and the order of the refusals.
-- Assumes nothing.
use mathlib.Core.Path.{◌≡◌, refl}
use mathlib.Core.Bool.{Bool, true, false}
use Prim.Native.Nat.{ℕ}
use lib.IntN.{pos, neg_ℤ}
use lib.Ieee.{inf, binary64, of_bits}
use Rattle.signed.specs.Zed.{in_z}
use Rattle.refusal.specs.Refusals.{Told, gives, refuses}
use Rattle.marking.specs.Marking.{near, out_of_range, marked}
use Rattle.marking.specs.declared.Typed.{Typed}
use Rattle.marking.specs.declared.Typed.TheVariants.{Kelvins, Content, Blank}

-- an answer by its 64 bits
abbrev kelvins : ℕ → Typed
kelvins bits = Kelvins (of_bits binary64 bits)

abbrev content : ℕ → Typed
content bits = Content (of_bits binary64 bits)

abbrev counted : Told Bool
counted = gives true

abbrev missed : Told Bool
missed = gives false

-- 200.5 kelvins and 0.03125 C.H.U./lb are binary fractions: the very key
exact_kelvins : (marked (kelvins 0x4069_1000_0000_0000) (pos 200500) (pos 0) ≡ counted) × (marked (content 0x3fa0_0000_0000_0000) (pos 3125) (pos 0) ≡ counted)
unfolding near out_of_range in_z of_bits
exact_kelvins = (refl, refl)

-- 0.1 kelvins is a little more than 100 mK, though one float product by 1,000 gives 100.0
tenth : (marked (kelvins 0x3fb9_9999_9999_999a) (pos 100) (pos 0) ≡ missed) × (marked (kelvins 0x3fb9_9999_9999_999a) (pos 99) (pos 1) ≡ missed)
    × (marked (kelvins 0x3fb9_9999_9999_999a) (pos 101) (pos 1) ≡ counted)
unfolding near out_of_range in_z of_bits
tenth = (refl, refl, refl)

-- 0.3 kelvins is a little less than 300 mK
three_tenths : (marked (kelvins 0x3fd3_3333_3333_3333) (pos 301) (pos 1) ≡ missed) × (marked (kelvins 0x3fd3_3333_3333_3333) (pos 299) (pos 1) ≡ counted)
unfolding near out_of_range in_z of_bits
three_tenths = (refl, refl)

-- 288.16 kelvins is a little more than 288,160 mK
fifteen_degrees_lem : (marked (kelvins 0x4072_028f_5c28_f5c3) (pos 288160) (pos 0) ≡ missed) × (marked (kelvins 0x4072_028f_5c28_f5c3) (pos 288161) (pos 1) ≡ counted)
unfolding near out_of_range in_z of_bits
fifteen_degrees_lem = (refl, refl)

-- 0.00001 C.H.U./lb is a little more than one unit
hundred_thousandth : (marked (content 0x3ee4_f8b5_88e3_68f1) (pos 0) (pos 1) ≡ missed) × (marked (content 0x3ee4_f8b5_88e3_68f1) (pos 2) (pos 1) ≡ counted)
unfolding near out_of_range in_z of_bits
hundred_thousandth = (refl, refl)

-- −21.11 C.H.U./lb is a little more than −2,111,000 units
below_zero : (marked (content 0xc035_1c28_f5c2_8f5c) (neg_ℤ (pos 2111001)) (pos 1) ≡ missed) × (marked (content 0xc035_1c28_f5c2_8f5c) (neg_ℤ (pos 2110999)) (pos 1) ≡ counted)
unfolding near out_of_range in_z of_bits
below_zero = (refl, refl)

-- the far end of content, 10,000,001, and the next float
far_content : (marked (content 0x4163_12d0_2000_0000) (pos 1000000000000) (pos 100000) ≡ counted) × (marked (content 0x4163_12d0_2000_0001) (pos 1000000000000) (pos 100000) ≡ missed)
unfolding near out_of_range in_z of_bits
far_content = (refl, refl)

-- the far end of kelvins, 1,000,000,100, and the next float
far_kelvins : (marked (kelvins 0x41cd_cd65_3200_0000) (pos 1000000000000) (pos 100000) ≡ counted) × (marked (kelvins 0x41cd_cd65_3200_0001) (pos 1000000000000) (pos 100000) ≡ missed)
unfolding near out_of_range in_z of_bits
far_kelvins = (refl, refl)

-- the least float above zero is not 0, and lies above it
least : (marked (kelvins 1) (pos 0) (pos 0) ≡ missed) × (marked (kelvins 1) (pos 1) (pos 1) ≡ counted) × (marked (kelvins 1) (neg_ℤ (pos 1)) (pos 1) ≡ missed)
unfolding near out_of_range in_z of_bits
least = (refl, refl, refl)

-- the least float below zero, mirrored
least_below : (marked (kelvins 0x8000_0000_0000_0001) (pos 1) (pos 1) ≡ missed) × (marked (kelvins 0x8000_0000_0000_0001) (neg_ℤ (pos 1)) (pos 1) ≡ counted)
unfolding near out_of_range in_z of_bits
least_below = (refl, refl)

-- minus zero is zero
minus_zero : marked (content 0x8000_0000_0000_0000) (pos 0) (pos 0) ≡ counted
unfolding near out_of_range in_z of_bits
minus_zero = refl

-- the largest float
largest : marked (content 0x7fef_ffff_ffff_ffff) (pos 1000000000000) (pos 100000) ≡ missed
unfolding near out_of_range in_z of_bits
largest = refl

-- both sides of each limit, before 11 is asked
limits : (marked Blank (pos 0) (pos 100000) ≡ refuses 11) × (marked Blank (pos 0) (pos 100001) ≡ refuses 12)
    × (marked Blank (pos 0) (neg_ℤ (pos 1)) ≡ refuses 12) × (marked Blank (neg_ℤ (pos 1000000000001)) (pos 0) ≡ refuses 12)
unfolding near out_of_range in_z
limits = (refl, refl, refl, refl)

-- an infinity, and a NaN's pattern, quiet or signalling, of either sign
no_numbers : (marked (Kelvins (inf true)) (pos 0) (pos 0) ≡ refuses 11) × (marked (content 0x7ff0_0000_0000_0001) (pos 0) (pos 0) ≡ refuses 11)
    × (marked (content 0xfff8_0000_0000_0000) (pos 0) (pos 100001) ≡ refuses 12)
unfolding near out_of_range in_z of_bits
no_numbers = (refl, refl, refl)
