use Rattle.std.proofs.Common.{rules, ◌≡◌, ℕ, ◌-◌, ◌≤◌, None, Some, cond, eqb, ltb, length, take, drop, refl, ap, ◌∙◌, arith}
use Rattle.std.specs.List.{position_or_len}
use Rattle.std.specs.Option.{unwrap_or}
use borrow.Author.Tests.{tests}
use Rattle.std.proofs.lemmas.Bool.{cond_both}
use Rattle.std.proofs.lemmas.Bool.Decides.{nat_tests}
use Rattle.std.proofs.lemmas.List.{take_all, length-drop}
use Rattle.std.proofs.lemmas.List.Sums.{prefix_len-le-length}
use Rattle.std.proofs.lemmas.Iterator.{YieldsList-from_slice}
use Rattle.std.proofs.lemmas.Iterator.Search.{position_from_yields_List}
use Rattle.lines.proofs.Cuts.{field_cut_at}
use Rattle.lines.proofs.scans.field_end.Goals as goal

-- a place, if it is one in the list, and else the list's length
first_or_end : (p n : ℕ) → p ≤ n → unwrap_or (cond (ltb p n) (Some p) None) n ≡ p
first_or_end p n h = cond_both (ltb p n) (Some p) None (λ o. unwrap_or o n ≡ p) (λ _. refl) (λ no. grind (arith, nat_tests))

pub returns-clause-cut : goal.returns-clause-cut
returns-clause-cut c =
    let line = c.args.line.now in
    let start = c.args.start in
    let rest = drop start line in
    let all = take (length line - start) rest in
    let found = position_from_yields_List (λ b. eqb b 32) _ _ c.position-spaces.result c.position-spaces.ensures.ran (YieldsList-from_slice all cc) (λ x b q k. search (rules, tests)) in
    let whole : all ≡ rest = take_all (length line - start) rest (omega (arith, length-drop start line)) in
    let end = c.unwrap_or.ensures ∙ ap (λ o. unwrap_or o (length all)) found ∙ first_or_end (position_or_len (λ b. eqb b 32) all) (length all) (prefix_len-le-length _ all) in
    (field_cut_at line start c.unwrap_or.result c.requires (end ∙ ap (position_or_len (λ b. eqb b 32)) whole)).1
