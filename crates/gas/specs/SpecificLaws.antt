-- The specific content is the whole number nearest to content over mass, a tie going to the even number, and no other number is (document 02, request 2):
-- over any sound weights, for every charge that burns, and so for every answer that is no refusal (`given_nearest`). Assumes nothing.
use Rattle.std.specs.Prelude.{◌≡◌, List, ℕ, ◌<◌, ℤ}
use Rattle.std.proofs.Common.{sym, mul-pos, arith}
use Rattle.signed.specs.Zed.{up}
use Rattle.signed.specs.Nearest.{Nearest}
use Rattle.signed.specs.NearestLaws.{nearest_keeps, nearest_one}
use Rattle.refusal.specs.Refusals.{gives}
use Rattle.refusal.specs.RefusalsLaws.{values_given}
use Rattle.refusal.specs.OrdersLaws.{clear_order, given}
use Rattle.burning.specs.declared.Charge.{Charge}
use Rattle.burning.specs.declared.Gas.{Gas}
use Rattle.burning.specs.Burning.{Weights, Sound, Burns, gas_of, total_mass}
use Rattle.gas.specs.Heat.{content_above15, specific_content}
use Rattle.gas.specs.Answers.{heat_order, specific_told}
use Rattle.gas.specs.AnswersLaws.{readable_of}

module _ (w : Weights) (sound : Sound w) where
  -- a charge that burns has mass
  mass_above : {g : Gas} → Burns w g → 0 < total_mass w g
  mass_above {g} b =
      let part : 0 < w.air_part = omega (arith, sound.thin) in
      let some : 0 < g.air = b.limits.air_some in
      omega (arith, mul-pos part some)

  module _ {g : Gas} (b : Burns w g) (s : List ℕ) (T : ℕ) where
    pub specific_nearest : Nearest (content_above15 w s g T) (total_mass w g) (specific_content w s g T)
    unfolding specific_content
    specific_nearest = nearest_keeps (content_above15 w s g T) (mass_above b)

    pub specific_one : {q : ℤ} → Nearest (content_above15 w s g T) (total_mass w g) q → q ≡ specific_content w s g T
    specific_one h = nearest_one (mass_above b) h specific_nearest

  -- what `specific_content` gives
  pub given_nearest : (ch : Charge) (mk : ℤ) (s : List ℕ) {q : ℤ} → gives q ≡ specific_told w ch mk s
      → Nearest (content_above15 w s (gas_of ch) (up mk)) (total_mass w (gas_of ch)) q
  given_nearest ch mk s e =
      let r = readable_of w ch mk s (sym (values_given (gas_of ch) (clear_order (heat_order w ch mk s) _ e))) in
      rw (← given (heat_order w ch mk s) _ e) (specific_nearest r.burns s (up mk))
