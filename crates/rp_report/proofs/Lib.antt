mod Goods
mod RandomExamples
mod UnitsWeight
