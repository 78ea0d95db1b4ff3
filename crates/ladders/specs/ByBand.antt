-- The lawful prices of lawful bands are those of which the rules speak.
use Rattle.std.specs.Prelude.{◌≡◌, List, [], ◌∷◌, ◌++◌, ℤ, ◌≤ℤ◌, ◌<ℤ◌, Some, None, Option, IfSome, unsigned_abs, refl}
use Rattle.std.proofs.Common.{ap, ◌∙◌, subst, arith}
use Rattle.std.proofs.lemmas.Int.{ints}
use Rattle.std.proofs.lemmas.Bool.{cond-true, cond-false}
use Rattle.ladders.specs.Bands.{under, tick_at, in_bands}
use Rattle.ladders.specs.Lawful.{Over, Follows, Chain, LawfulBands}
use Rattle.ladders.specs.LawfulPrices.{FromStart, UnderNext, PricesByBand}
use Rattle.ladders.specs.Multiples.{multiple}
use Rattle.ladders.specs.Orders.{lt_test, not_lt_test}
use Rattle.ladders.specs.declared.bands.Band.{Band}

-- what lies from the start of a later band on lies from the start before on
from_before : (a b : Band) (v : ℤ) → Follows a b → FromStart b.start v → FromStart a.start v
from_before a b v next from =
    let late = subst (λ (o : Option ℤ). FromStart o v) next.1 from in
    each a.start next.2.over late
  where
    each : (o : Option ℤ) → Over o next.0 → next.0 ≤ℤ v → FromStart o v
    each None over late = tt
    each (Some s) over late = omega (arith, ints)

-- and so from every earlier start on
from_earlier : (a : Band) (front : List Band) (b : Band) (rest : List Band) (v : ℤ) → Chain a (front ++ (b ∷ rest)) → FromStart b.start v → FromStart a.start v
from_earlier a [] b rest v chain from = from_before a b v chain.0 from
from_earlier a (c ∷ cs) b rest v chain from = from_before a c v chain.0 (from_earlier c cs b rest v chain.1 from)

-- the tick at v, where v does not lie under the start of the next band, and where it does
tick_from : (a b : Band) (bs : List Band) (v : ℤ) → Follows a b → FromStart b.start v → tick_at a.tick (b ∷ bs) v ≡ tick_at b.tick bs v
tick_from a b bs v next from =
    let late = subst (λ (o : Option ℤ). FromStart o v) next.1 from in
    cond-false (under v b.start) a.tick (tick_at b.tick bs v) (ap (under v) next.1 ∙ not_lt_test v next.0 late)

tick_under : (a : Band) (rest : List Band) (v : ℤ) → Chain a rest → UnderNext rest v → tick_at a.tick rest v ≡ a.tick
tick_under a [] v chain short = refl
tick_under a (b ∷ bs) v chain short =
    let next = chain.0 in
    let early = subst (λ (o : Option ℤ). IfSome o (λ s. v <ℤ s)) next.1 short in
    cond-true (under v b.start) a.tick (tick_at b.tick bs v) (ap (under v) next.1 ∙ lt_test v next.0 early)

-- the tick at v is that of the band b that v lies in
tick_in : (a : Band) (front : List Band) (b : Band) (rest : List Band) (v : ℤ) → Chain a (front ++ (b ∷ rest)) → FromStart b.start v → UnderNext rest v → tick_at a.tick (front ++ (b ∷ rest)) v ≡ b.tick
tick_in a [] b rest v chain from short = tick_from a b rest v chain.0 from ∙ tick_under b rest v chain.1 short
tick_in a (c ∷ cs) b rest v chain from short =
    tick_from a c (cs ++ (b ∷ rest)) v chain.0 (from_earlier c cs b rest v chain.1 from)
    ∙ tick_in c cs b rest v chain.1 from short

lawful_in : (front : List Band) (b : Band) (rest : List Band) (v : ℤ) → LawfulBands (front ++ (b ∷ rest)) → FromStart b.start v → UnderNext rest v → in_bands (front ++ (b ∷ rest)) v ≡ multiple (unsigned_abs b.tick) v
lawful_in [] b rest v h from short = ap (λ k. multiple (unsigned_abs k) v) (tick_under b rest v h.joined.1 short)
lawful_in (a ∷ front) b rest v h from short = ap (λ k. multiple (unsigned_abs k) v) (tick_in a front b rest v h.joined.1 from short)

pub prices_by_band : (bands : List Band) → LawfulBands bands → PricesByBand bands (in_bands bands)
prices_by_band bands h front b rest v is from short =
    ap (λ bs. in_bands bs v) is ∙ lawful_in front b rest v (subst LawfulBands is h) from short
