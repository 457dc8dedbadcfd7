-- How many items were accepted, and which.
use Rattle.std.proofs.Common.{◌≡◌, ◌+◌, List, ◌++◌, length, take, Option, sym, ap, ◌∙◌, arith, length-append}
use Rattle.std.proofs.Math.Seq.{take-append_seam}
use Rattle.flow_law.specs.sharing.TurnAccount.{kept_items, accepted_count, LawTurnAccount}

module _ {T : Type 0} (whole : List T) (kept : Option T) (rest accepted : List T) where
  count-is : whole ≡ accepted ++ (kept_items kept ++ rest) → length accepted ≡ accepted_count whole kept rest
  count-is h =
      let total : length whole ≡ length accepted + (length (kept_items kept) + length rest) =
      ap length h ∙ length-append accepted (kept_items kept ++ rest) ∙ ap (λ n. length accepted + n) (length-append (kept_items kept) rest) in
      omega (arith, total)

  first-items : whole ≡ accepted ++ (kept_items kept ++ rest) → accepted ≡ take (accepted_count whole kept rest) whole
  first-items h =
      sym (
      ap (λ n. take n whole) (sym (count-is h))
      ∙ ap (take (length accepted)) h
      ∙ take-append_seam accepted (kept_items kept ++ rest)
      )

pub turn_account : (T : Type 0) → LawTurnAccount T
turn_account T whole kept rest accepted h = (count-is whole kept rest accepted h, first-items whole kept rest accepted h)
