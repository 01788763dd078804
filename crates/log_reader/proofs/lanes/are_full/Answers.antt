use Rattle.std.proofs.Common.{◌≡◌, ℕ, ◌+◌, ◌-◌, get_or, sym, ap, ◌∙◌, arith, inl, inr}
use Rattle.std.proofs.lemmas.Bool.{cases_lt}
use Rattle.std.proofs.lemmas.Bool.Decides.{nat_tests}
use Rattle.std.proofs.lemmas.List.{get_or-drop}
use Rattle.text_fields.specs.Hexadecimal.{is_hex_digit}
use Rattle.log_reader.proofs.lanes.are_full.Goals as goal

pub returns : goal.returns
returns c =
    let bytes = c.args.bytes.now in
    let begins = c.begins_full.ensures in
    let yes = c.if-not-begins_full.false in
    let ends = c.ends_full.ensures in
    let at : (k : ℕ) → get_or c.bytes_from.result.now k 0 ≡ get_or bytes (9 + k) 0 =
    λ k. ap (λ l. get_or l k 0) c.bytes_from.ensures.rest ∙ get_or-drop 9 bytes k 0 in
    record {
      enough = λ last. grind (arith, nat_tests);
      first = λ last. begins.first yes;
      digits = λ last. begins.digits yes;
      comma = λ last. begins.comma yes;
      least = λ last. begins.least yes;
      most = λ last. begins.most yes;
      later = λ last. begins.later yes;
      second = λ last. begins.second yes;
      content = λ last i after before. elim (cases_lt i 16) [
        | inl early ↦ begins.content yes i after early
        | inr late ↦
            let back : 9 + (i - 9) ≡ i = omega (arith, late) in
            ap is_hex_digit (sym (at (i - 9) ∙ ap (λ j. get_or bytes j 0) back))
            ∙ ends.content last (i - 9) (omega (arith, late, before))
      ];
      feed = λ last. sym (at 15) ∙ ends.feed last;
    }
