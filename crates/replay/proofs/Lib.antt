mod ReadCounts
mod Fitted
mod Stood
mod Pointed
mod Judged
mod Laws
mod Wanting
