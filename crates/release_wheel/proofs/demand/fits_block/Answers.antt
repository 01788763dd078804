use Rattle.release_wheel.proofs.Demands.{summed-all, summed-more, summed-start}
use Rattle.release_wheel.proofs.demand.fits_block.Goals as goal

pub loop-p-init : goal.loop-p-init
loop-p-init c = summed-start c.args.w c.args.from c.args.until

pub loop-p-preserved : goal.loop-p-preserved
loop-p-preserved c =
    let made = c.add_releases.ensures in
    let fits = c.if-not-add_releases.false in
    summed-more c.args.placed.now c.loop-p.p-index _ c.args.w c.args.from c.args.until c.loop-p.demand c.add_releases.new.demand c.loop-p-test.true
    c.loop-p.invariant (made.within fits) (made.more fits)

pub returns : goal.returns
returns c = record {
  fits = λ done. summed-all c.args.placed.now c.loop-p.p-index c.args.w c.args.from c.args.until c.loop-p.demand c.loop-p-test.false c.requires.few
      c.loop-p.invariant;
}
