-- whether a flow is late
pub mod Late
-- laws that the code uses: the periods of the flows that count, lateness by the constraints on N, and by the starts of the site's clusters alone
pub mod Periods
pub mod LateLaws
pub mod LateSame
